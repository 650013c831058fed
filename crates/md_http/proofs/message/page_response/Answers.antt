use Rattle.md_http.specs.Message.{response_of}
use Rattle.md_http.proofs.message.page_response.Goals as goal

pub returns : goal.returns
unfolding response_of
returns c = c.message.ensures

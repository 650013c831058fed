use Rattle.std.proofs.Common.{sym}
use Rattle.law_damage.proofs.Written.{file_laid}
use Rattle.law_damage.proofs.laws.profiles_are_written_in_fields.Goals as goal

pub returns-clause-newer : goal.returns-clause-newer
returns-clause-newer c f = sym (file_laid 50 f)

pub returns-clause-older : goal.returns-clause-older
returns-clause-older c f = sym (file_laid 49 f)

use Rattle.std.proofs.Common.{arith}
use Rattle.std.proofs.lemmas.Grind.{common_steps}
use Rattle.std.proofs.Common.{inl}
use Rattle.md_http.proofs.Givings.{given_back}
use Rattle.md_http.proofs.serving.serve_one.Goals as goal

pub returns-in-NoMemory-clause-end : goal.returns-in-NoMemory-clause-end
returns-in-NoMemory-clause-end g c = λ v before input is told stream held.
    let back = given_back v before input c.serve_link-served.result _ _ _ _ _ _ _ told stream held c.requires.reads c.requires.writes (c.serve_link-served.ensures.served v is) c.in_ok-give_back.ensures.served in
    inl (rw c.in-NoMemory.is at back)

pub returns-in_default-clause-end : goal.returns-in_default-clause-end
returns-in_default-clause-end g c = λ v before input is told stream held.
    given_back v before input c.serve_link-served.result _ _ _ _ _ _ _ told stream held c.requires.reads c.requires.writes (c.serve_link-served.ensures.served v is) c.in_ok-give_back.ensures.served

pub returns-in-NoMemory-clause-count : goal.returns-in-NoMemory-clause-count
returns-in-NoMemory-clause-count g c = grind (arith, common_steps)

pub returns-in-NoMemory-clause-fault : goal.returns-in-NoMemory-clause-fault
returns-in-NoMemory-clause-fault g c = grind (arith, common_steps)

pub returns-in-NoMemory-clause-memory : goal.returns-in-NoMemory-clause-memory
returns-in-NoMemory-clause-memory g c = grind (arith, common_steps)

pub returns-in-NoMemory-clause-stays : goal.returns-in-NoMemory-clause-stays
returns-in-NoMemory-clause-stays g c = grind (arith, common_steps)

pub returns-in_default-clause-count : goal.returns-in_default-clause-count
returns-in_default-clause-count g c = grind (arith, common_steps)

pub returns-in_default-clause-fault : goal.returns-in_default-clause-fault
returns-in_default-clause-fault g c = grind (arith, common_steps)

pub returns-in_default-clause-memory : goal.returns-in_default-clause-memory
returns-in_default-clause-memory g c = grind (arith, common_steps)

pub returns-in_default-clause-stays : goal.returns-in_default-clause-stays
returns-in_default-clause-stays g c = grind (arith, common_steps)

pub returns-in_err-give_back-clause-count : goal.returns-in_err-give_back-clause-count
returns-in_err-give_back-clause-count g c = grind (arith, common_steps)

pub returns-in_err-give_back-clause-end : goal.returns-in_err-give_back-clause-end
returns-in_err-give_back-clause-end g c = grind (arith, common_steps)

pub returns-in_err-give_back-clause-fault : goal.returns-in_err-give_back-clause-fault
returns-in_err-give_back-clause-fault g c = grind (arith, common_steps)

pub returns-in_err-give_back-clause-memory : goal.returns-in_err-give_back-clause-memory
returns-in_err-give_back-clause-memory g c = grind (arith, common_steps)

pub returns-in_err-give_back-clause-stays : goal.returns-in_err-give_back-clause-stays
returns-in_err-give_back-clause-stays g c = grind (arith, common_steps)

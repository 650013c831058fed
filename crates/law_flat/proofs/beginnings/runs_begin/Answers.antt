use Rattle.law_flat.proofs.Beginning.{begins_here, nothing_runs}
use Rattle.law_flat.proofs.Mains.{main_there}
use Rattle.law_flat.proofs.beginnings.runs_begin.Goals as goal

pub returns-clause-main : goal.returns-clause-main
returns-clause-main types known text s spells fault code is = main_there text s spells fault code is

pub returns-clause-begins : goal.returns-clause-begins
returns-clause-begins types known text s spells fault code is m called b enough st h = begins_here text s spells fault code is m called b enough st h

pub returns-clause-nothing : goal.returns-clause-nothing
returns-clause-nothing types known s m called b lt = nothing_runs s m called b lt

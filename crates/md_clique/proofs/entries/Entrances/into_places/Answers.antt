use Rattle.md_clique.proofs.EntryPlaces.{found_all, found_twice}
use Rattle.md_clique.proofs.entries.Entrances.into_places.Goals as goal

pub returns-in-None-clause-one : goal.returns-in-None-clause-one
returns-in-None-clause-one c = λ cliques links is are reached. found_all cliques links c.args.self.first.items are reached (rw c.in-None.is at is)

pub returns-in-Some-clause-two : goal.returns-in-Some-clause-two
returns-in-Some-clause-two c = λ cliques links is are reached. found_twice cliques links c.args.self.first.items are reached c.in-Some.field-0 (rw c.in-Some.is at is)

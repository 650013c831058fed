-- Where a loaded profile keeps what the words on a page are looked up in.
use Rattle.std.specs.Prelude.{map}
use Rattle.md_cost.specs.FileView.{join_of}
use Rattle.md_cost.specs.Loading.{LoadedRows}
use Rattle.md_render.specs.Names.{Names}

abbrev pub names_in : LoadedRows → Names
names_in loaded = record {
  statics = loaded.profile.statics;
  nodes = loaded.profile.nodes;
  links = map join_of loaded.profile.links;
  cliques = loaded.cliques;
}

use Rattle.md_heap.proofs.Frames.{integer-differs, literal-differs, cell-differs}
use Rattle.md_heap.proofs.heap.Heap.look.Goals as goal

pub returns-in_default : goal.returns-in_default
returns-in_default c = record {
  sum = integer-differs c.args.self.now c.args.v c.args.w c.in_default.field-0-0 c.in_default.is-0 c.in_default.not-Int-1;
  frame = tt;
}

pub returns-in_default-2 : goal.returns-in_default-2
returns-in_default-2 c = record {
  sum = literal-differs c.args.self.now c.args.v c.args.w c.in_default.field-0-0 c.in_default.is-0 c.in_default.not-Lit-1;
  frame = tt;
}

pub returns-in_default-3 : goal.returns-in_default-3
returns-in_default-3 c = record {
  sum = cell-differs c.args.self.now c.args.v c.args.w c.in_default.field-0-0 c.in_default.is-0 c.in_default.not-Cell-1;
  frame = tt;
}

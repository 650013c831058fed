use Rattle.std.proofs.Common.{ap, arith}
use Rattle.std.proofs.lemmas.Grind.{common_steps}
use Rattle.md_render.specs.Kept.{names_in}
use Rattle.md_render.specs.Lines.{row_words}
use Rattle.md_render.proofs.Chains.{words_added}
use Rattle.md_render.proofs.line.add_row.Goals as goal

pub returns-in_ok-add-in-Own : goal.returns-in_ok-add-in-Own
returns-in_ok-add-in-Own c =
    words_added c.add_counts.result c.args.out.now.items c.add-in-Own.new.out.items c.add_counts.new.out.items _ _ (row_words c.args.form (names_in c.args.loaded.now) c.args.row.now) c.in_ok-add-in-Own.ensures c.add_counts.ensures (ap (row_words c.args.form (names_in c.args.loaded.now)) c.in-Own.is)

pub returns-in_ok-add-in-Total : goal.returns-in_ok-add-in-Total
returns-in_ok-add-in-Total c =
    words_added c.add_counts-in-Total.result c.args.out.now.items c.add-in-Total.new.out.items c.add_counts-in-Total.new.out.items _ _ (row_words c.args.form (names_in c.args.loaded.now) c.args.row.now) c.in_ok-add-in-Total.ensures c.add_counts-in-Total.ensures (ap (row_words c.args.form (names_in c.args.loaded.now)) c.in-Total.is)

pub returns-in_ok-add_entry-in-Entered : goal.returns-in_ok-add_entry-in-Entered
returns-in_ok-add_entry-in-Entered c =
    words_added c.add_own.result c.args.out.now.items c.add_entry.new.out.items c.add_own.new.out.items _ _ (row_words c.args.form (names_in c.args.loaded.now) c.args.row.now) c.in_ok-add_entry-in-Entered.ensures c.add_own.ensures (ap (row_words c.args.form (names_in c.args.loaded.now)) c.in-Entered.is)

pub returns-in_ok-add_context_of-in-Of : goal.returns-in_ok-add_context_of-in-Of
returns-in_ok-add_context_of-in-Of c =
    words_added c.add_both-in-Of.result c.args.out.now.items c.add_context_of.new.out.items c.add_both-in-Of.new.out.items _ _ (row_words c.args.form (names_in c.args.loaded.now) c.args.row.now) c.in_ok-add_context_of-in-Of.ensures c.add_both-in-Of.ensures (ap (row_words c.args.form (names_in c.args.loaded.now)) c.in-Of.is)

pub returns-in_ok-add_context-in-Context : goal.returns-in_ok-add_context-in-Context
returns-in_ok-add_context-in-Context c =
    words_added c.add_both.result c.args.out.now.items c.add_context.new.out.items c.add_both.new.out.items _ _ (row_words c.args.form (names_in c.args.loaded.now) c.args.row.now) c.in_ok-add_context-in-Context.ensures c.add_both.ensures (ap (row_words c.args.form (names_in c.args.loaded.now)) c.in-Context.is)

pub returns-in_ok-add_leaving-in-Leaving : goal.returns-in_ok-add_leaving-in-Leaving
returns-in_ok-add_leaving-in-Leaving c =
    words_added c.add_both-in-Leaving.result c.args.out.now.items c.add_leaving.new.out.items c.add_both-in-Leaving.new.out.items _ _ (row_words c.args.form (names_in c.args.loaded.now) c.args.row.now) c.in_ok-add_leaving-in-Leaving.ensures c.add_both-in-Leaving.ensures (ap (row_words c.args.form (names_in c.args.loaded.now)) c.in-Leaving.is)

pub returns-in_ok-add_inside-in-Inside : goal.returns-in_ok-add_inside-in-Inside
returns-in_ok-add_inside-in-Inside c =
    words_added c.add_own-in-Inside.result c.args.out.now.items c.add_inside.new.out.items c.add_own-in-Inside.new.out.items _ _ (row_words c.args.form (names_in c.args.loaded.now) c.args.row.now) c.in_ok-add_inside-in-Inside.ensures c.add_own-in-Inside.ensures (ap (row_words c.args.form (names_in c.args.loaded.now)) c.in-Inside.is)

pub returns-in-Finished : goal.returns-in-Finished
returns-in-Finished c = grind (arith, common_steps)

pub returns-in-Main : goal.returns-in-Main
returns-in-Main c = grind (arith, common_steps)

pub returns-in_ok-add-in-Number : goal.returns-in_ok-add-in-Number
returns-in_ok-add-in-Number c = grind (arith, common_steps)

pub returns-in_ok-add_module_size-in-Module : goal.returns-in_ok-add_module_size-in-Module
returns-in_ok-add_module_size-in-Module c = grind (arith, common_steps)

pub returns-in_ok-add_named-in-Proc : goal.returns-in_ok-add_named-in-Proc
returns-in_ok-add_named-in-Proc c = grind (arith, common_steps)

pub returns-in_ok-add_site-in-Site : goal.returns-in_ok-add_site-in-Site
returns-in_ok-add_site-in-Site c = grind (arith, common_steps)

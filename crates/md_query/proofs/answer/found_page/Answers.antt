use Rattle.std.proofs.Common.{Some, ap}
use Rattle.md_query.specs.Page.{PageRows}
use Rattle.md_query.specs.PageOf.{page_of}
use Rattle.md_query.proofs.answer.found_page.Goals as goal

pub returns-in_ok-menu_page-in-Menu : goal.returns-in_ok-menu_page-in-Menu
unfolding page_of
returns-in_ok-menu_page-in-Menu c = λ v is. rw c.in-Menu.is (ap (λ (p : PageRows). Some p) (c.in_ok-menu_page-in-Menu.ensures v is))

pub returns-in_ok-procs_page-in-Procs : goal.returns-in_ok-procs_page-in-Procs
unfolding page_of
returns-in_ok-procs_page-in-Procs c = λ v is. rw c.in-Procs.is (ap (λ (p : PageRows). Some p) (c.in_ok-procs_page-in-Procs.ensures v is))

pub returns-in_ok-top_page-in-Top : goal.returns-in_ok-top_page-in-Top
unfolding page_of
returns-in_ok-top_page-in-Top c = λ v is. rw c.in-Top.is (ap (λ (p : PageRows). Some p) (c.in_ok-top_page-in-Top.ensures v is))

pub returns-in_ok-modules_page-in-Modules : goal.returns-in_ok-modules_page-in-Modules
unfolding page_of
returns-in_ok-modules_page-in-Modules c = λ v is. rw c.in-Modules.is (ap (λ (p : PageRows). Some p) (c.in_ok-modules_page-in-Modules.ensures v is))

pub returns-in_ok-hot_page-in-Hot : goal.returns-in_ok-hot_page-in-Hot
unfolding page_of
returns-in_ok-hot_page-in-Hot c = λ v is. rw c.in-Hot.is (ap (λ (p : PageRows). Some p) (c.in_ok-hot_page-in-Hot.ensures v is))

pub returns-in_ok-tree_page-in-Tree : goal.returns-in_ok-tree_page-in-Tree
unfolding page_of
returns-in_ok-tree_page-in-Tree c = λ v is. rw c.in-Tree.is (ap (λ (p : PageRows). Some p) (c.in_ok-tree_page-in-Tree.ensures v is))

pub returns-in_ok-find_page-in-Find : goal.returns-in_ok-find_page-in-Find
unfolding page_of
returns-in_ok-find_page-in-Find c = λ v is. rw c.in-Find.is (ap (λ (p : PageRows). Some p) (c.in_ok-find_page-in-Find.ensures v is))

pub returns-in-Flame : goal.returns-in-Flame
unfolding page_of
returns-in-Flame c = λ v is. rw c.in-Flame.is (ap (λ (p : PageRows). Some p) c.flame_page.ensures)

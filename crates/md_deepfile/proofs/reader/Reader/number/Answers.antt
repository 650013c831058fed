use Rattle.std.proofs.Common.{subst, sym, arith}
use Rattle.std.proofs.lemmas.Grind.{common_steps}
use Rattle.md_deepfile.specs.State.{state_of, number_told, Follows}
use Rattle.md_deepfile.specs.declared.part.Field.{Field}
use Rattle.md_deepfile.proofs.reader.Reader.number.Goals as goal

pub returns-in-ProcModule-clause-follows : goal.returns-in-ProcModule-clause-follows
returns-in-ProcModule-clause-follows c =
    let s = state_of c.args.self.now in
    subst (λ (field : Field). Follows (number_told field s c.args.number) s.at (state_of c.proc_module.new.self) c.proc_module.result) (sym c.in-ProcModule.is) c.proc_module.ensures.follows

pub returns-in-SiteOwner-clause-follows : goal.returns-in-SiteOwner-clause-follows
returns-in-SiteOwner-clause-follows c =
    let s = state_of c.args.self.now in
    subst (λ (field : Field). Follows (number_told field s c.args.number) s.at (state_of c.site_owner.new.self) c.site_owner.result) (sym c.in-SiteOwner.is) c.site_owner.ensures.follows

pub returns-in-SiteLine-clause-follows : goal.returns-in-SiteLine-clause-follows
returns-in-SiteLine-clause-follows c =
    let s = state_of c.args.self.now in
    subst (λ (field : Field). Follows (number_told field s c.args.number) s.at (state_of c.site_line.new.self) c.site_line.result) (sym c.in-SiteLine.is) c.site_line.ensures.follows

pub returns-in-LinkCount-clause-follows : goal.returns-in-LinkCount-clause-follows
returns-in-LinkCount-clause-follows c =
    let s = state_of c.args.self.now in
    subst (λ (field : Field). Follows (number_told field s c.args.number) s.at (state_of c.link_count.new.self) c.link_count.result) (sym c.in-LinkCount.is) c.link_count.ensures.follows

pub returns-in-RootCaller-clause-follows : goal.returns-in-RootCaller-clause-follows
returns-in-RootCaller-clause-follows c =
    let s = state_of c.args.self.now in
    subst (λ (field : Field). Follows (number_told field s c.args.number) s.at (state_of c.root_caller.new.self) c.root_caller.result) (sym c.in-RootCaller.is) c.root_caller.ensures.follows

pub returns-in-RootSite-clause-follows : goal.returns-in-RootSite-clause-follows
returns-in-RootSite-clause-follows c =
    let s = state_of c.args.self.now in
    subst (λ (field : Field). Follows (number_told field s c.args.number) s.at (state_of c.root_site.new.self) c.root_site.result) (sym c.in-RootSite.is) c.root_site.ensures.follows

pub returns-in-LinkCaller-clause-follows : goal.returns-in-LinkCaller-clause-follows
returns-in-LinkCaller-clause-follows c =
    let s = state_of c.args.self.now in
    subst (λ (field : Field). Follows (number_told field s c.args.number) s.at (state_of c.link_caller.new.self) c.link_caller.result) (sym c.in-LinkCaller.is) c.link_caller.ensures.follows

pub returns-in-LinkSite-clause-follows : goal.returns-in-LinkSite-clause-follows
returns-in-LinkSite-clause-follows c =
    let s = state_of c.args.self.now in
    subst (λ (field : Field). Follows (number_told field s c.args.number) s.at (state_of c.link_site.new.self) c.link_site.result) (sym c.in-LinkSite.is) c.link_site.ensures.follows

pub returns-in-ProcModule-clause-ready : goal.returns-in-ProcModule-clause-ready
returns-in-ProcModule-clause-ready c = grind (arith, common_steps)

pub returns-in-SiteCount-clause-follows : goal.returns-in-SiteCount-clause-follows
returns-in-SiteCount-clause-follows c = grind (arith, common_steps)

pub returns-in-SiteCount-clause-ready : goal.returns-in-SiteCount-clause-ready
returns-in-SiteCount-clause-ready c = grind (arith, common_steps)

pub returns-in-SiteLine-clause-ready : goal.returns-in-SiteLine-clause-ready
returns-in-SiteLine-clause-ready c = grind (arith, common_steps)

pub returns-in-RootOwn-clause-follows : goal.returns-in-RootOwn-clause-follows
returns-in-RootOwn-clause-follows c = grind (arith, common_steps)

pub returns-in-RootOwn-clause-ready : goal.returns-in-RootOwn-clause-ready
returns-in-RootOwn-clause-ready c = grind (arith, common_steps)

pub returns-in-RootSite-clause-ready : goal.returns-in-RootSite-clause-ready
returns-in-RootSite-clause-ready c = grind (arith, common_steps)

pub returns-in-RootCaller-clause-ready : goal.returns-in-RootCaller-clause-ready
returns-in-RootCaller-clause-ready c = grind (arith, common_steps)

pub returns-in-RootCallee-clause-follows : goal.returns-in-RootCallee-clause-follows
returns-in-RootCallee-clause-follows c = grind (arith, common_steps)

pub returns-in-RootCallee-clause-ready : goal.returns-in-RootCallee-clause-ready
returns-in-RootCallee-clause-ready c = grind (arith, common_steps)

pub returns-in-ContextProc-clause-follows : goal.returns-in-ContextProc-clause-follows
returns-in-ContextProc-clause-follows c = grind (arith, common_steps)

pub returns-in-ContextProc-clause-ready : goal.returns-in-ContextProc-clause-ready
returns-in-ContextProc-clause-ready c = grind (arith, common_steps)

pub returns-in-ModuleCount-clause-follows : goal.returns-in-ModuleCount-clause-follows
returns-in-ModuleCount-clause-follows c = grind (arith, common_steps)

pub returns-in-ModuleCount-clause-ready : goal.returns-in-ModuleCount-clause-ready
returns-in-ModuleCount-clause-ready c = grind (arith, common_steps)

pub returns-in-LinkCaller-clause-ready : goal.returns-in-LinkCaller-clause-ready
returns-in-LinkCaller-clause-ready c = grind (arith, common_steps)

pub returns-in-SiteOwner-clause-ready : goal.returns-in-SiteOwner-clause-ready
returns-in-SiteOwner-clause-ready c = grind (arith, common_steps)

pub returns-in-LinkCount-clause-ready : goal.returns-in-LinkCount-clause-ready
returns-in-LinkCount-clause-ready c = grind (arith, common_steps)

pub returns-in-ProcCount-clause-follows : goal.returns-in-ProcCount-clause-follows
returns-in-ProcCount-clause-follows c = grind (arith, common_steps)

pub returns-in-ProcCount-clause-ready : goal.returns-in-ProcCount-clause-ready
returns-in-ProcCount-clause-ready c = grind (arith, common_steps)

pub returns-in-LinkSite-clause-ready : goal.returns-in-LinkSite-clause-ready
returns-in-LinkSite-clause-ready c = grind (arith, common_steps)

pub returns-in-ContextCount-clause-follows : goal.returns-in-ContextCount-clause-follows
returns-in-ContextCount-clause-follows c = grind (arith, common_steps)

pub returns-in-ContextCount-clause-ready : goal.returns-in-ContextCount-clause-ready
returns-in-ContextCount-clause-ready c = grind (arith, common_steps)

pub returns-in-SiteCallee-clause-follows : goal.returns-in-SiteCallee-clause-follows
returns-in-SiteCallee-clause-follows c = grind (arith, common_steps)

pub returns-in-SiteCallee-clause-ready : goal.returns-in-SiteCallee-clause-ready
returns-in-SiteCallee-clause-ready c = grind (arith, common_steps)

pub returns-in-LinkCallee-clause-follows : goal.returns-in-LinkCallee-clause-follows
returns-in-LinkCallee-clause-follows c = grind (arith, common_steps)

pub returns-in-LinkCallee-clause-ready : goal.returns-in-LinkCallee-clause-ready
returns-in-LinkCallee-clause-ready c = grind (arith, common_steps)

pub returns-in-LinkOwn-clause-follows : goal.returns-in-LinkOwn-clause-follows
returns-in-LinkOwn-clause-follows c = grind (arith, common_steps)

pub returns-in-LinkOwn-clause-ready : goal.returns-in-LinkOwn-clause-ready
returns-in-LinkOwn-clause-ready c = grind (arith, common_steps)

use Rattle.std.proofs.Common.{◌≡◌, Ok, sym, subst, rules}
use Rattle.std.specs.Prelude.{OnOk, IfErr}
use Rattle.lx_draft.specs.Faults.{TellsStep}
use Rattle.lx_draft.specs.Beside.{put_behind_step}
use Rattle.lx_draft.proofs.Gaps.{next_is_place, behind_is, behind_none}
use Rattle.lx_draft.proofs.draft.Draft.put_behind.Goals as goal

pub put_in_gap-requires-clause-place : goal.put_in_gap-requires-clause-place
put_in_gap-requires-clause-place c = next_is_place c.args.self.now.forest c.in-Some.parent c.args.other c.next-next.result (search rules) (search rules)

pub returns-in-Some-clause-ok : goal.returns-in-Some-clause-ok
returns-in-Some-clause-ok c =
    let same = behind_is c.args.self.now c.args.key c.in-Some.parent c.args.other c.next-next.result (search rules) (search rules) (search rules) in
    subst (λ s. OnOk c.put_in_gap.result (s ≡ Ok c.put_in_gap.new.self)) same c.put_in_gap.ensures.ok

pub returns-in-Some-clause-err : goal.returns-in-Some-clause-err
returns-in-Some-clause-err c =
    let same = behind_is c.args.self.now c.args.key c.in-Some.parent c.args.other c.next-next.result (search rules) (search rules) (search rules) in
    subst (λ s. IfErr c.put_in_gap.result (λ e. TellsStep e s)) same c.put_in_gap.ensures.err

pub returns-in-None-clause-err : goal.returns-in-None-clause-err
returns-in-None-clause-err c =
    subst (λ e. TellsStep e (put_behind_step c.args.key c.args.other c.args.self.now)) (sym c.no_place_beside.ensures) (behind_none _ _ _ (search rules))

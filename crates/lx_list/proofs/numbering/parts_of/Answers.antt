use Rattle.std.proofs.Common.{◌≡◌, ◌+◌, ◌++◌, ◌∷◌, [], suc, Option, None, Some, sym, subst, arith}
use Rattle.std.specs.Prelude.{take, IfSome}
use Rattle.lx_list.specs.declared.parts.Part.{Part}
use Rattle.lx_forest.specs.Forest.{Forest}
use Rattle.lx_list.specs.Parts.{IsUnnumberedPart, AreParts}
use Rattle.lx_list.proofs.Rewritten.{one_more}
use Rattle.lx_list.proofs.numbering.parts_of.Goals as goal

some_told : (o : Option Part) (part : Part) (P : Part → Type 0) → o ≡ Some part → IfSome o P → P part
some_told None part P is told = absurd (cc)
some_told (Some own) part P is told = let same : own ≡ part = cc in subst P same told

pub loop-list-preserved : goal.loop-list-preserved
loop-list-preserved c =
    let f : Forest = c.args.draft.now.forest in
    let next : suc c.loop-list.list-index ≡ c.loop-list.list-index + 1 = omega arith in
    let more : AreParts f (take (suc c.loop-list.list-index) c.args.lists.now) (c.loop-list.parts.items ++ c.in-Some.part ∷ []) =
    one_more f c.args.lists.now c.loop-list.parts.items c.loop-list.list-index c.list-item.result c.in-Some.part c.loop-list-test.true c.list-item.is
    c.loop-list.invariant (some_told c.in_ok-part.field-0 c.in-Some.part (λ part. IsUnnumberedPart f c.list-item.result part.number part.keys.items) c.in-Some.is c.in_ok-part.ensures) in
    subst (AreParts f (take (c.loop-list.list-index + 1) c.args.lists.now)) (sym c.in_ok-push.ensures.items)
    (subst (λ n. AreParts f (take n c.args.lists.now) (c.loop-list.parts.items ++ c.in-Some.part ∷ [])) next more)

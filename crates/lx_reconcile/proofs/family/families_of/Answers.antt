use Rattle.std.proofs.Common.{◌≡◌, ◌∙◌, ◌+◌, ◌++◌, ◌∷◌, [], take, length-take, sym, ap, subst, arith}
use Rattle.std.proofs.lemmas.List.{take_more}
use Rattle.lx_reconcile.specs.Families.{AreFamilies}
use Rattle.lx_reconcile.proofs.Kin.{families_other, families_more, families_small}
use Rattle.lx_reconcile.proofs.family.families_of.Goals as goal
use Rattle.lx_reconcile.proofs.family.families_of.Goals.{in-Some+in_ok-add_child, in_default}

pub add_child-requires : goal.add_child-requires
add_child-requires c = record {
  small = families_small c.args.hosts.now.tree (take c.loop-key.key-index c.as_slice-key-items.result.now) c.loop-key.made c.loop-key.invariant
      (omega (arith, length-take c.loop-key.key-index c.as_slice-key-items.result.now, c.loop-key-test.true, c.as_slice-key-items.type_inv.0)) c.in-Some.host;
}

pub loop-key-preserved : goal.loop-key-preserved
loop-key-preserved c =
    let keys = c.as_slice-key-items.result.now in
    let v = c.args.hosts.now.tree in
    let front = take c.loop-key.key-index keys in
    let push : take (c.loop-key.key-index + 1) keys ≡ front ++ c.key-item.result ∷ [] =
    take_more keys c.loop-key.key-index c.key-item.result c.loop-key-test.true ∙ ap (λ k. front ++ k ∷ []) (sym c.key-item.is) in
    elim c.match-host_above.branch [
      | in-Some+in_ok-add_child w ↦
          subst (λ ks. AreFamilies v ks c.match-host_above.made) (sym push)
          (subst (AreFamilies v (front ++ c.key-item.result ∷ [])) (sym w.made-is)
          (families_more v c.key-item.result w.in-Some.host front c.loop-key.made w.add_child.new.families (sym c.host_above.ensures ∙ w.in-Some.is)
          c.loop-key.invariant w.in_ok-add_child.ensures.each))
      | in_default w ↦
          subst (λ ks. AreFamilies v ks c.match-host_above.made) (sym push)
          (subst (AreFamilies v (front ++ c.key-item.result ∷ [])) (sym w.made-is)
          (families_other v c.key-item.result front c.loop-key.made (sym c.host_above.ensures ∙ w.in_default.is) c.loop-key.invariant))
    ]

use Rattle.std.proofs.Common.{◌≡◌, ◌+◌, ◌≤◌, ◌-◌, ℕ, List, Some, take, sym, ap, subst, rules}
use Rattle.std.proofs.lemmas.List.{take_all}
use Rattle.lx_forest.specs.Forest.{Forest}
use Rattle.lx_forest.specs.Lookups.{depth}
use Rattle.lx_links.specs.Shallow.{AreWithin}
use Rattle.lx_node.specs.Limits.{most_depth}
use Rattle.lx_draft.specs.Working.{Working}
use Rattle.lx_draft.proofs.Depths.{AreShallow, shallow_tree, shallow_away, shallow_all}
use Rattle.lx_draft.proofs.draft.Draft.is_shallow.Goals as goal
use Rattle.lx_draft.proofs.draft.Draft.is_shallow.Goals.{in-Some+else-depth-gt-MOST_DEPTH+else-not-is_shallow, in_default}

pub loop-key-preserved : goal.loop-key-preserved
loop-key-preserved c =
    let f : Forest = c.self.inside.links in
    let forest : f ≡ c.args.self.now.forest = ap (λ (v : Working). v.forest) c.self.view_is in
    let ks : List ℕ = c.leaves-key-items.result.now in
    let before : AreShallow f (take c.loop-key.key-index ks) = subst (λ g. AreShallow g (take c.loop-key.key-index ks)) (sym forest) c.loop-key.invariant in
    subst (λ g. AreShallow g (take (c.loop-key.key-index + 1) ks)) forest (elim c.match-depth.branch [
      | in-Some+else-depth-gt-MOST_DEPTH+else-not-is_shallow w ↦
          let small : w.in-Some.depth ≤ most_depth = search rules in
          let within : AreWithin (most_depth - w.in-Some.depth) f c.key-item.result = search rules in
          shallow_tree f ks c.loop-key.key-index c.key-item.result w.in-Some.depth c.depth.result c.depth.ensures.sound c.loop-key-test.true c.key-item.is
          c.depth.ensures.depth w.in-Some.is small within before
      | in_default w ↦
          shallow_away f ks c.loop-key.key-index c.key-item.result c.depth.result c.depth.ensures.sound c.loop-key-test.true c.key-item.is c.depth.ensures.depth
          w.in_default.is before
    ])

pub returns : goal.returns
returns c = λ yes.
    let f : Forest = c.self.inside.links in
    let forest : f ≡ c.args.self.now.forest = ap (λ (v : Working). v.forest) c.self.view_is in
    let ks : List ℕ = c.leaves-key-items.result.now in
    let all : take c.loop-key.key-index ks ≡ ks = take_all c.loop-key.key-index ks c.loop-key-test.false in
    let same : ks ≡ c.self.inside.loose.leaves = c.leaves-key-items.ensures.leaves in
    let done : AreShallow f ks =
    subst (λ xs. AreShallow f xs) all (subst (λ g. AreShallow g (take c.loop-key.key-index ks)) (sym forest) c.loop-key.invariant) in
    subst (λ g. (q d : ℕ) → depth g q ≡ Some d → d ≤ most_depth) forest
    (shallow_all f c.self.inside.loose.leaves c.self.invariant.moved (subst (λ xs. AreShallow f xs) same done))

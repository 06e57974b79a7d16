use Rattle.std.proofs.Common.{◌≡◌, ◌∙◌, sym, ap, true, false, refl, rules, inl, inr}
use Rattle.std.specs.Prelude.{is_some}
use Rattle.lx_links.proofs.Seen.{seen_in, absent_in, is_some_in}
use Rattle.lx_compare.proofs.SameNode.{unchanged_by, same_there, in_both}
use Rattle.lx_compare.proofs.same.is_as_before.Goals as goal

pub returns-in-Some-Some : goal.returns-in-Some-Some
returns-in-Some-Some c =
    let s = seen_in c.node.result c.in-Some-Some.before c.args.old.now c.args.key c.node.ensures.node c.in-Some-Some.is-0 in
    let t = seen_in c.node-2.result c.in-Some-Some.after c.args.new.now c.args.key c.node-2.ensures.node c.in-Some-Some.is-1 in (
      λ yes. inr (unchanged_by _ _ _ _ _ s t (c.is_same_node.ensures.0 yes)),
      λ before. c.is_same_node.ensures.1 (same_there _ _ _ _ _ s t before),
    )

pub returns-in-None-None : goal.returns-in-None-None
returns-in-None-None c =
    let was = absent_in c.node.result c.args.old.now c.args.key c.node.ensures.node c.in-None-None.is-0 in
    let is = absent_in c.node-2.result c.args.new.now c.args.key c.node-2.ensures.node c.in-None-None.is-1 in (
      λ yes. inl (was, is),
      λ before. refl,
    )

pub returns-in_default : goal.returns-in_default
returns-in_default c =
    let was = is_some_in c.node.result c.args.old.now c.args.key c.node.ensures.node in
    let is = is_some_in c.node-2.result c.args.new.now c.args.key c.node-2.ensures.node in (
      λ yes. absurd (search rules),
      λ before. absurd (let clash : true ≡ false = sym (ap is_some c.in_default.is-0) ∙ was ∙ in_both _ _ _ before ∙ sym is
          ∙ ap is_some c.in_default.is-1 in cc),
    )

pub returns-in_default-2 : goal.returns-in_default-2
returns-in_default-2 c =
    let was = is_some_in c.node.result c.args.old.now c.args.key c.node.ensures.node in
    let is = is_some_in c.node-2.result c.args.new.now c.args.key c.node-2.ensures.node in (
      λ yes. absurd (search rules),
      λ before. absurd (let clash : false ≡ true = sym (ap is_some c.in_default.is-0) ∙ was ∙ in_both _ _ _ before ∙ sym is
          ∙ ap is_some c.in_default.is-1 in cc),
    )

use Rattle.std.proofs.Common.{◌≡◌, ◌∙◌, ℕ, ◌==◌, ◌||◌, ◌&&◌, List, Some, None, subst}
use Rattle.std.specs.Prelude.{OnOk}
use Rattle.lx_node.specs.Kinds.{is_list}
use Rattle.lx_forest.specs.Lookups.{preorder}
use Rattle.lx_blocks.specs.Blocks.{is_at}
use Rattle.lx_list.proofs.KeptLists.{kept_of, kept_no_more}
use Rattle.lx_list.proofs.touched.keep_list_of.Goals as goal

pub returns-in-Some : goal.returns-in-Some
returns-in-Some c = λ p kept.
    subst (λ (ks : List ℕ). OnOk c.keep_list-in-Some.result (c.keep_list-in-Some.new.keys.items ≡ ks))
    (kept_of c.args.links.now c.args.key p (Some c.in-Some.parent) c.in-Some.ensures.parent)
    (c.keep_list-in-Some.ensures _ (c.in_ok-keep_list.ensures p kept))

pub returns-in-None : goal.returns-in-None
returns-in-None c = λ p kept.
    c.in_ok-keep_list.ensures p kept
    ∙ kept_no_more (λ q. p q || (is_at is_list c.args.links.now q && q == c.args.key)) (is_at is_list c.args.links.now) (preorder c.args.links.now)
    ∙ kept_of c.args.links.now c.args.key p None c.in-None.ensures.parent

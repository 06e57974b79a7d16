-- The new node of an edit that has work can be made.
use Rattle.std.proofs.Common.{◌≡◌, ◌≢◌, Bool, true, false, ◌&&◌, not, Option, None, Some, refl, subst, arith}
use Rattle.std.specs.List.{list_all, list_any}
use Rattle.lx_node.specs.Kinds.{is_block, is_inline, is_paragraph, is_heading, is_list, is_item, is_link, is_row, is_cell, may_hold}
use Rattle.lx_node.specs.declared.kind.Kind.{Kind}
use Rattle.lx_node.specs.declared.kind.Kind.TheVariants.{Root}
use Rattle.lx_node.specs.declared.node.View.{View}
use Rattle.lx_step.specs.declared.rule.NewNode.{NewNode}
use Rattle.lx_step.specs.declared.rule.SelfEdit.TheVariants.{Replace, Wrap, Before, After, Child}
use Rattle.lx_rules.specs.Types.{is_kind, same_kind}
use Rattle.lx_rules.specs.Idle.{is_root, is_held, is_suited, may_stand}
use Rattle.lx_settle.specs.Acting.{CanBeMade, has_work_at}
use Rattle.lx_settle.proofs.Tests.{first_of, second_of}

-- nothing holds a root
no_root_inside : (outer : Kind) → may_hold outer Root ≡ false
unfolding may_hold is_block is_inline is_paragraph is_heading is_list is_item is_link is_row is_cell
no_root_inside Root = refl
no_root_inside outer = refl

inside_other : (outer inner : Kind) → may_hold outer inner ≡ true → inner ≢ Root
inside_other outer inner e = λ root.
    let held : may_hold outer Root ≡ true = subst (λ k. may_hold outer k ≡ true) root e in
    grind (arith, held, no_root_inside outer)

held_other : (outer : Option Kind) (inner : Kind) → is_held outer inner ≡ true → inner ≢ Root
held_other None inner e = absurd (cc)
held_other (Some outer) inner e = inside_other outer inner e

stands_made : (v : View) (new : NewNode) (rest : Bool) → (may_stand v new && rest) ≡ true → CanBeMade new
stands_made v new rest e =
    let stands : may_stand v new ≡ true = first_of (may_stand v new) rest e in
    record {
      other = held_other v.parent new.kind
          (second_of (not (is_root v.kind)) (is_held v.parent new.kind) (second_of (is_suited new) (not (is_root v.kind) && is_held v.parent new.kind) stands));
      of_kind = first_of (is_suited new) (not (is_root v.kind) && is_held v.parent new.kind) stands;
    }

pub replace_made : (o : Option View) (new : NewNode) → has_work_at o (Replace new) ≡ true → CanBeMade new
replace_made None new e = absurd (cc)
replace_made (Some v) new e = stands_made v new (not (same_kind v.kind new.kind) && list_all (may_hold new.kind) v.children) e

pub wrap_made : (o : Option View) (new : NewNode) → has_work_at o (Wrap new) ≡ true → CanBeMade new
wrap_made None new e = absurd (cc)
wrap_made (Some v) new e = stands_made v new (not (is_kind v.parent new.kind) && may_hold new.kind v.kind) e

pub before_made : (o : Option View) (new : NewNode) → has_work_at o (Before new) ≡ true → CanBeMade new
before_made None new e = absurd (cc)
before_made (Some v) new e = stands_made v new (not (is_kind v.prev new.kind)) e

pub after_made : (o : Option View) (new : NewNode) → has_work_at o (After new) ≡ true → CanBeMade new
after_made None new e = absurd (cc)
after_made (Some v) new e = stands_made v new (not (is_kind v.next new.kind)) e

pub child_made : (o : Option View) (new : NewNode) → has_work_at o (Child new) ≡ true → CanBeMade new
child_made None new e = absurd (cc)
child_made (Some v) new e =
    let rest : Bool = may_hold v.kind new.kind && not (list_any (same_kind new.kind) v.children) in
    record {
      other = inside_other v.kind new.kind
          (first_of (may_hold v.kind new.kind) (not (list_any (same_kind new.kind) v.children)) (second_of (is_suited new) rest e));
      of_kind = first_of (is_suited new) rest e;
    }

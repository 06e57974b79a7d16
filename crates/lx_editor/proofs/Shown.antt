-- Operations that are allowed for marks with gone nodes among them are allowed for the marks of what is left, and are found by
-- as few reads.
use Rattle.std.proofs.Common.{◌≡◌, ◌∙◌, ◌+◌, ◌*◌, ◌<◌, ◌≤◌, ◌&&◌, ℕ, Bool, true, false, cond, ltb, List, [], ◌∷◌, length, None, refl, sym, ap, subst, arith, inl, inr}
use Rattle.std.specs.List.{AllByRecursion}
use Rattle.std.proofs.lemmas.Bool.{cases_Bool}
use Rattle.std.proofs.lemmas.Bool.Decides.{eqb_tells}
use Rattle.lx_trees.specs.Trees.{nil, tree}
use Rattle.lx_host.specs.declared.op.Op.{Op}
use Rattle.lx_host.specs.Hosts.{HostTree}
use Rattle.lx_marks.specs.Marks.{Marked, unmarked, is_touched, is_noted}
use Rattle.lx_forest.specs.Forest.{Forest, Label}
use Rattle.lx_forest.specs.Lookups.{has, count, roots}
use Rattle.lx_reconcile.specs.Allowed.{MayChange, new_host, of_touched, of_child, IsDue, subject_of, marked_children, staying, unkept}
use Rattle.lx_reconcile.specs.Allowing.{marking, IsAllowed}
use Rattle.lx_reconcile.specs.Told.{Told}
use Rattle.lx_editor.specs.Editor.{Editor}
use Rattle.lx_editor.specs.Updated.{Left, IsNothingNew, hosts_fault}
use Rattle.lx_reconcile.specs.Reading.{most_reads}
use Rattle.lx_editor.specs.Judged.{IsLeft, HasGrown, IsShownBy, MayCommit}

-- ---- children of nodes that two markings mark alike

own_count : (l : Label) (b t : Forest) → 0 < count l.key (tree l b t)
own_count l b t = grind (arith, eqb_tells l.key l.key)

pub same_children : (noted other : ℕ → Bool) (f : Forest) → ((q : ℕ) → 0 < count q f → noted q ≡ other q) → marked_children noted f ≡ marked_children other f
same_children noted other nil same = refl
same_children noted other (tree l b t) same =
    let own : cond (noted l.key) (length (roots b)) 0 ≡ cond (other l.key) (length (roots b)) 0 =
    ap (λ x. cond x (length (roots b)) 0) (same l.key (own_count l b t)) in
    omega (
      arith,
      own,
      same_children noted other b (λ q there. same q (omega (arith, there))),
      same_children noted other t (λ q there. same q (omega (arith, there))),
    )

module _ (old : Forest) (left : Left) (shown : Marked) (s : IsShownBy old left shown) where
  -- ---- what operations may be about

  may_change : (v : HostTree) (id : ℕ) → MayChange old left.tree (is_touched shown) v id → MayChange old left.tree (is_touched left.marks) v id
  may_change v _ (new_host id out) = new_host id out
  may_change v _ (of_touched id key among e) = elim (cases_Bool (has key left.tree)) [
    | inl there ↦ of_touched id key among (sym (s.touched key there) ∙ e)
    | inr out ↦ elim (s.gone key out e) [
      | inl marked ↦ of_touched id key among marked
      | inr child ↦ of_child id key child.parent among child.up child.stays child.marked
    ]
  ]
  may_change v _ (of_child id key parent among up stays e) = of_child id key parent among up stays (sym (s.touched parent stays) ∙ e)

  all_due : (v : HostTree) (ops : List Op) → AllByRecursion (IsDue old left.tree (is_touched shown) v) ops
      → AllByRecursion (IsDue old left.tree (is_touched left.marks) v) ops
  all_due v [] all = tt
  all_due v (op ∷ ops) all = (record { subject = may_change v (subject_of op) all.0.subject; place = all.0.place; drop = all.0.drop }, all_due v ops all.1)

  pub allowed_left : (v : HostTree) (ops : List Op) → IsAllowed old left.tree (marking shown) v ops → IsAllowed old left.tree (marking left.marks) v ops
  allowed_left v ops (w, a) = (w, record { leads = a.leads; shows = a.shows; keeps = a.keeps; due = all_due v ops a.due; writes = a.writes })

  -- ---- how many reads there may be

  stays_same : (q : ℕ) → staying (is_noted shown) left.tree q ≡ staying (is_noted left.marks) left.tree q
  stays_same q = elim (cases_Bool (has q left.tree)) [
    | inl there ↦ ap (λ b. b && has q left.tree) (s.noted q there)
    | inr out ↦ and_false (is_noted shown q) (has q left.tree) out ∙ sym (and_false (is_noted left.marks q) (has q left.tree) out)
  ] where
    and_false : (a b : Bool) → b ≡ false → (a && b) ≡ false
    and_false true b e = e
    and_false false b e = refl

  pub reads_left : most_reads old left.tree (is_noted shown) ≡ most_reads old left.tree (is_noted left.marks)
  reads_left =
      let before = same_children (staying (is_noted shown) left.tree) (staying (is_noted left.marks) left.tree) old (λ q there. stays_same q) in
      let after = same_children (is_noted shown) (is_noted left.marks) left.tree (λ q there. s.noted q (is_there (count q left.tree) there)) in
      ap (λ n. 8 * (n + marked_children (is_noted shown) left.tree + unkept old None left.tree + 1)) before
      ∙ ap (λ n. 8 * (marked_children (staying (is_noted left.marks) left.tree) old + n + unkept old None left.tree + 1)) after
    where
      is_there : (n : ℕ) → 0 < n → ltb 0 n ≡ true
      is_there n e = grind (arith, e)

-- ---- a commit

no_marks : (m : Marked) → m ≡ unmarked → is_touched m 0 ≡ true → ⊥
no_marks m none touched = let e : is_touched unmarked 0 ≡ true = ap (λ n. is_touched n 0) (sym none) ∙ touched in cc

-- what is left of a document is something new
pub is_anew : (e : Editor) (left : Left) → is_touched left.marks 0 ≡ true → IsNothingNew e left → ⊥
is_anew e left touched nothing = no_marks left.marks nothing.none_marked touched

-- it may be committed with the operations for these marks
pub may_commit : (e : Editor) (left : Left) (shown : Marked) (batch : Told) → IsLeft left → is_touched left.marks 0 ≡ true → IsShownBy e.tree left shown
    → hosts_fault e.tree left.tree e.view ≡ None
    → HasGrown e.tree e.next_key left → IsAllowed e.tree left.tree (marking shown) e.view batch.ops → batch.reads ≤ most_reads e.tree left.tree (is_noted shown)
    → MayCommit e left batch
may_commit e left shown batch stands touched s ids grown allowed few = record {
  stands = stands;
  grown = grown;
  anew = is_anew e left touched;
  ids = ids;
  allowed = allowed_left e.tree left shown s e.view batch.ops allowed;
  few = subst (λ n. batch.reads ≤ n) (reads_left e.tree left shown s) few;
}

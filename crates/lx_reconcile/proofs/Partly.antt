-- Children without a mark that stay in front of some moves and after them: nothing is done for them, so these moves do
-- what all do.
use Rattle.std.proofs.Common.{◌≡◌, ◌∙◌, ◌≤◌, ℕ, Bool, true, false, List, [], ◌∷◌, ◌++◌, map, Some, sym, ap, subst, arith, append-nil}
use Rattle.std.proofs.lemmas.Bool.Decides.{eqb_tells}
use Rattle.lx_trees.specs.Siblings.{is_among}
use Rattle.lx_host.specs.declared.op.Op.{Op}
use Rattle.lx_host.specs.Hosts.{Host, HostTree}
use Rattle.lx_forest.specs.Forest.{Forest}
use Rattle.lx_forest.specs.Lookups.{children_of, trees_of}
use Rattle.lx_forest.specs.Covered.{Marking}
use Rattle.lx_reconcile.specs.declared.moves.Move.{Move}
use Rattle.lx_reconcile.specs.declared.moves.Move.TheVariants.{Stay}
use Rattle.lx_reconcile.specs.Making.{IsBetween, MakesMoves, AreNext, AreComing}
use Rattle.lx_reconcile.specs.Reading.{reads_in}
use Rattle.lx_reconcile.specs.ToCome.{IsInWalk}
use Rattle.lx_reconcile.specs.Walk.{standing, IsPart}
use Rattle.lx_reconcile.proofs.InTurn.{standing-append}
use Rattle.lx_reconcile.proofs.Made.{after_there, makes_both}
use Rattle.lx_reconcile.proofs.Reading.{reads_append}
use Rattle.lx_reconcile.proofs.Skipped.{done_plain}
use Rattle.lx_reconcile.proofs.Walked.{walk_both, walk_stay}

-- none of these carries a mark
abbrev pub ArePlain : (ℕ → Bool) → List ℕ → Type 0
ArePlain noted ks = (k : ℕ) → is_among k ks ≡ true → noted k ≡ false

-- the moves of all children, of which these are a part
abbrev pub all_of : {noted : ℕ → Bool} {olds news : List ℕ} {moves : List Move} → IsPart noted olds news moves → List Move
all_of {moves} p = map Stay p.front ++ (moves ++ map Stay p.back)

module _ (old new : Forest) (mk : Marking) (v : HostTree) (b : IsBetween old new mk v) where
  -- ---- a front

  skip_one : (k c from : ℕ) (ops : List Op) (a : Host) (more : List Move) (n : ℕ) → mk.noted c ≡ false → IsInWalk old new v k from ops a (Stay c ∷ more) n
      → IsInWalk old new v k from ops a more n
  skip_one k c from ops a more n plain w =
      let there = after_there b k c (walk_both w).1 in
      subst (λ l. IsInWalk old new v k from l a more n) (append-nil ops) (walk_stay b.view.after there w (done_plain old new mk v b c n there plain))

  skip_all : (k from : ℕ) (ops : List Op) (a : Host) (front : List ℕ) (more : List Move) (n : ℕ) → ArePlain mk.noted front
      → IsInWalk old new v k from ops a (map Stay front ++ more) n → IsInWalk old new v k from ops a more n
  skip_all k from ops a [] more n plain w = w
  skip_all k from ops a (c ∷ front) more n plain w =
      skip_all k from ops a front more n (λ q e. plain q (grind (arith, e)))
      (skip_one k c from ops a (map Stay front ++ more) n (plain c (grind (arith, eqb_tells c c))) w)

  -- the moves after it are next
  pub skip_next : (k : ℕ) (front : List ℕ) (more : List Move) (n : ℕ) → ArePlain mk.noted front → AreNext old new v k (map Stay front ++ more) n
      → AreNext old new v k more n
  skip_next k front more n plain x =
      record {
        from = x.from;
        ops = x.ops;
        a = x.a;
        walk = skip_all k x.from x.ops x.a front more n plain x.walk;
        behind = x.behind;
        room = x.room;
        there = x.there;
      }

  -- its moves are made by no operation
  pub makes_plain : (k : ℕ) (front : List ℕ) (n : ℕ) (start : List Op) → ArePlain mk.noted front → MakesMoves old new mk v k (map Stay front) n start start n
  makes_plain k front n start plain = record {
    pushed = [];
    list = sym (append-nil start);
    due = tt;
    leads = λ from ops a more w. subst (λ l. IsInWalk old new v k from l a more n) (sym (append-nil ops)) (skip_all k from ops a front more n plain w);
  }

  -- ---- a part

  pub part_coming : (k : ℕ) (olds news : List ℕ) (moves : List Move) (n : ℕ) → (p : IsPart mk.noted olds news moves) → AreNext old new v k (all_of p) n
      → AreComing old new v k moves n
  part_coming k olds news moves n p x = record { more = map Stay p.back; are = skip_next k p.front (moves ++ map Stay p.back) n p.front_plain x }

  pub part_makes : (k : ℕ) (olds news : List ℕ) (moves : List Move) (n m : ℕ) (start end : List Op) → (p : IsPart mk.noted olds news moves)
      → MakesMoves old new mk v k moves n start end m → MakesMoves old new mk v k (all_of p) n start end m
  part_makes k olds news moves n m start end p made =
      makes_both (map Stay p.front) (moves ++ map Stay p.back) (makes_plain k p.front n start p.front_plain)
      (makes_both moves (map Stay p.back) made (makes_plain k p.back m end p.back_plain))

-- no more reads go to its children than to all
pub part_reads : (old new : Forest) (noted : ℕ → Bool) (k : ℕ) (olds : List ℕ) (moves : List Move) → IsPart noted olds (children_of new k) moves
    → reads_in old noted (Some k) (trees_of new (standing moves)) ≤ reads_in old noted (Some k) (trees_of new (children_of new k))
part_reads old new noted k olds moves p =
    let behind = moves ++ map Stay p.back in
    let list : standing (map Stay p.front) ++ (standing moves ++ standing (map Stay p.back)) ≡ children_of new k =
    ap (λ l. standing (map Stay p.front) ++ l) (sym (standing-append moves (map Stay p.back))) ∙ sym (standing-append (map Stay p.front) behind)
    ∙ p.walk.stands in
    omega (
      arith,
      ap (λ ks. reads_in old noted (Some k) (trees_of new ks)) list,
      reads_append old new noted (Some k) (standing (map Stay p.front)) (standing moves ++ standing (map Stay p.back)),
      reads_append old new noted (Some k) (standing moves) (standing (map Stay p.back)),
    )

-- Two trees are compared key by key: what is settled so far, and what is in the end.
use Rattle.std.proofs.Common.{◌≡◌, ◌≢◌, ◌∙◌, ◌<◌, ◌+◌, ◌||◌, ◌⊎◌, ◌++◌, ℕ, Bool, true, false, nat_lt, List, [], ◌∷◌, Option, None, Some, refl, sym, ap, subst, inl, inr, arith}
use Rattle.std.specs.Prelude.{is_some}
use Rattle.std.proofs.lemmas.Bool.{cases_Bool, cases_eq}
use Rattle.std.proofs.lemmas.Bool.Decides.{eqb_tells}
use Rattle.lx_trees.specs.Siblings.{is_among}
use Rattle.lx_trees.proofs.Siblings.{is_among-append}
use Rattle.lx_trees.specs.Trees.{nil}
use Rattle.lx_node.specs.declared.node.Node.{Node}
use Rattle.lx_marks.specs.Marks.{Marked}
use Rattle.lx_forest.specs.Forest.{Forest}
use Rattle.lx_forest.specs.Lookups.{has, roots}
use Rattle.lx_forest.specs.Records.{record_at}
use Rattle.lx_forest.proofs.Records.{is_some-record_at}
use Rattle.lx_store.specs.Differing.{AreSameTo}
use Rattle.lx_links.specs.Stands.{node_at, node_of}
use Rattle.lx_links.proofs.Seen.{seen, is_some-map}
use Rattle.lx_compare.specs.Differing.{Differs}
use Rattle.lx_compare.specs.Places.{IsAsBefore, IsOutside}
use Rattle.lx_compare.specs.Marking.{AreFounded, Grows, IsTold, IsSettled}
use Rattle.lx_compare.proofs.SameNode.{unchanged_by}

-- what marks show they still show where they grow
told_still : (old new : Forest) (m n : Marked) (q : ℕ) → Grows m n → IsTold old new m q → IsTold old new n q
told_still old new m n q grows told = record {
  itself = grows q told.itself;
  before = λ p up. grows p (told.before p up);
  after = λ p up. grows p (told.after p up);
}

settled_still : (old new : Forest) (m n : Marked) (q : ℕ) → Grows m n → IsSettled old new m q → IsSettled old new n q
settled_still old new m n q grows (inl absent) = inl absent
settled_still old new m n q grows (inr (inl same)) = inr (inl same)
settled_still old new m n q grows (inr (inr told)) = inr (inr (told_still old new m n q grows told))

absent_at : (f : Forest) (q : ℕ) → node_at f q ≡ None → has q f ≡ false
absent_at f q none = sym (is_some-record_at f q) ∙ sym (is_some-map node_of (record_at f q)) ∙ ap is_some none

-- where both have one node, or none, nothing has to be marked
settled_same : (old new : Forest) (m : Marked) (q : ℕ) (o : Option Node) → node_at old q ≡ o → node_at new q ≡ o → IsSettled old new m q
settled_same old new m q None was is = inl (absent_at old q was, absent_at new q is)
settled_same old new m q (Some n) was is =
    inr (inl
    (unchanged_by old new q n n (seen old q n (sym was)) (seen new q n (sym is)) (record { fields = refl; parent = refl; previous = refl; next = refl })))

-- ---- key by key

-- the marks are founded, and each key below one is settled
pub record IsCompared (old new : Forest) (m : Marked) (from : ℕ) : Type 0 where
  pub founded : AreFounded old new m
  pub settled : (q : ℕ) → q < from → IsSettled old new m q

pub compared_more : (old new : Forest) (m n : Marked) (from key : ℕ) → IsCompared old new m from → AreSameTo (node_at old) (node_at new) from (Some key)
    → AreFounded old new n → Grows m n → IsSettled old new n key
    → IsCompared old new n (key + 1)
compared_more old new m n from key so_far same founded grows own = record { founded = founded; settled = settled } where
  settled : (q : ℕ) → q < key + 1 → IsSettled old new n q
  settled q lt = elim (nat_lt q from) as (λ b. nat_lt q from ≡ b → IsSettled old new n q) [
    | true ↦ λ e. settled_still old new m n q grows (so_far.settled q (grind (arith, e)))
    | false ↦ λ e. elim (cases_eq q key) [
      | inl here ↦ subst (IsSettled old new n) (sym here) own
      | inr apart ↦ settled_same old new n q (node_at new q) (same.1 q (grind (arith, e)) (omega (arith, lt, apart))) refl
    ]
  ] refl

pub compared_all : (old new : Forest) (m : Marked) (from : ℕ) → IsCompared old new m from → AreSameTo (node_at old) (node_at new) from None → (q : ℕ)
    → IsSettled old new m q
compared_all old new m from so_far same q = elim (nat_lt q from) as (λ b. nat_lt q from ≡ b → IsSettled old new m q) [
  | true ↦ λ e. so_far.settled q (grind (arith, e))
  | false ↦ λ e. settled_same old new m q (node_at new q) (same q (grind (arith, e))) refl
] refl

-- a node that isn't as before differs
pub differs_by : (old new : Forest) (q : ℕ) → (IsAsBefore old new q → ⊥) → Differs old new q
differs_by old new q other = record {
  there = elim (cases_Bool (has q old)) [
    | inl was ↦ grind (arith, was)
    | inr out ↦ elim (cases_Bool (has q new)) [
      | inl is ↦ grind (arith, is)
      | inr gone ↦ absurd (other (inl (out, gone)))
    ]
  ];
  other = λ same. other (inr same);
}

-- a tree of the root has nodes
pub living : (f : Forest) → roots f ≡ 0 ∷ [] → f ≢ nil
living f alone none = let h : [] ≡ 0 ∷ [] = ap roots (sym none) ∙ alone in cc

-- ---- at keys that are told

-- one key more of those that are looked at is settled
pub among_more : (old new : Forest) (m n : Marked) (keys front : List ℕ) (k : ℕ) → keys ≡ front ++ k ∷ []
    → ((q : ℕ) → is_among q front ≡ true → IsSettled old new m q) → Grows m n → IsSettled old new n k
    → (q : ℕ) → is_among q keys ≡ true → IsSettled old new n q
among_more old new m n keys front k is so_far grows own q among =
    elim (either_of (is_among q front) (is_among q (k ∷ [])) (sym (ap (is_among q) is ∙ is_among-append q front (k ∷ [])) ∙ among)) [
      | inl before ↦ settled_still old new m n q grows (so_far q before)
      | inr last ↦ elim (eqb_tells k q) [
        | inl same ↦ subst (IsSettled old new n) same.1 own
        | inr other ↦ absurd (grind (arith, last, other.0))
      ]
    ] where
      either_of : (a b : Bool) → (a || b) ≡ true → (a ≡ true) ⊎ (b ≡ true)
      either_of true b e = inl refl
      either_of false b e = inr e

-- each key is among the first, or among those since, or is as before
pub all_among : (old new : Forest) (m n : Marked) (places since : Option (List ℕ)) (first later : List ℕ) → places ≡ Some first → since ≡ Some later
    → ((q : ℕ) → IsOutside places q → IsOutside since q → IsAsBefore old new q)
    → ((q : ℕ) → is_among q first ≡ true → IsSettled old new m q) → Grows m n → ((q : ℕ) → is_among q later ≡ true → IsSettled old new n q) → (q : ℕ)
    → IsSettled old new n q
all_among old new m n places since first later is_first is_later told before grows after q = elim (cases_Bool (is_among q first)) [
  | inl here ↦ settled_still old new m n q grows (before q here)
  | inr apart ↦ elim (cases_Bool (is_among q later)) [
    | inl here ↦ after q here
    | inr out ↦ elim (told q (subst (λ o. IsOutside o q) (sym is_first) apart) (subst (λ o. IsOutside o q) (sym is_later) out)) [
      | inl absent ↦ inl absent
      | inr same ↦ inr (inl same)
    ]
  ]
]

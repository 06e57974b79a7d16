-- Keys that are listed, and all that went with them.
use Rattle.std.proofs.Common.{◌≡◌, ◌≢◌, ◌∙◌, ◌⊎◌, ℕ, ◌<◌, ◌+◌, zero, suc, Bool, true, false, eqb, List, [], ◌∷◌, ◌++◌, length, take, drop, get_or, ◌-◌, None, Some, refl, sym, ap, subst, inl, inr, arith}
use Rattle.std.proofs.lemmas.List.{at_drop_more}
use Rattle.std.specs.Prelude.{if◌then◌else◌}
use Rattle.std.specs.List.{ends_with}
use Rattle.std.proofs.lemmas.Slice.Eq.{ends_is}
use Rattle.std.proofs.lemmas.Bool.{cases_Bool, cases_eq}
use Rattle.std.proofs.lemmas.Bool.Decides.{eqb_tells, Decides-eqb}
use Rattle.lx_trees.specs.Siblings.{is_among}
use Rattle.lx_trees.proofs.Siblings.{is_among-append}
use Rattle.lx_trees.proofs.Spots.{is_among-firsts}
use Rattle.lx_trees.proofs.Subtrees.{count-alone-le}
use Rattle.lx_forest.specs.Forest.{Forest}
use Rattle.lx_forest.specs.Lookups.{key_of, has, roots, parent_of, children_of, ancestors, is_within, IsForest}
use Rattle.lx_forest.specs.Covered.{AreCovered}
use Rattle.lx_forest.proofs.Edits.{has-root}
use Rattle.lx_forest.proofs.Lookups.{has-parent_of, is_among-children_of}
use Rattle.lx_forest.proofs.Tops.{is_within-child}
use Rattle.lx_forest.proofs.Walks.{cases_option, ancestors-step}
use Rattle.lx_forest.proofs.Within.{is_within-self, is_within-up}
use Rattle.lx_marks.specs.Marks.{Marked, flag_in, is_touched, is_noted, is_true_flag}
use Rattle.lx_links.specs.Stands.{Sound}
use Rattle.lx_links.proofs.Placed.{parent_of-child}
use Rattle.lx_links.proofs.Up.{in_order_at}
use Rattle.lx_compare.specs.Places.{IsAsBefore, IsOutside, AreKept, IsListed}

-- ---- lists that grow

among_back : (q : ℕ) (xs ys : List ℕ) → is_among q ys ≡ true → is_among q (xs ++ ys) ≡ true
among_back q xs ys e = grind (arith, is_among-append q xs ys, e)

-- ---- what is below a node

-- of these children each is left, or its tree is among the keys
pub record AreBelow (f : Forest) (start keys all left : List ℕ) : Type 0 where
  pub kept : AreKept start keys
  pub within : (c : ℕ) → is_among c left ≡ true → is_among c all ≡ true
  pub each : (c q : ℕ) → is_among c all ≡ true → is_within f c q ≡ true → (is_among c left ≡ true) ⊎ (is_among q keys ≡ true)

-- a child of those that are left is one
pub left_child : (f : Forest) (start keys all left rest : List ℕ) (p k : ℕ) → Sound f → all ≡ children_of f p → AreBelow f start keys all left → left ≡ k ∷ rest
    → parent_of f k ≡ Some p
left_child f start keys all left rest p k sound is below at =
    parent_of-child f k p sound (sym (ap (is_among k) is) ∙ below.within k (ap (is_among k) at ∙ grind (arith, eqb_tells k k)))

-- once no child is left all below the node is among the keys
pub below_all : (f : Forest) (k : ℕ) (start keys all left : List ℕ) → Sound f → all ≡ children_of f k → left ≡ [] → AreBelow f start keys all left
    → (q : ℕ) → is_within f k q ≡ true → q ≢ k → is_among q keys ≡ true
below_all f k start keys all left s is none below q inside other =
    let there : has q f ≡ true = grind (arith, inside, count-alone-le key_of q k f) in
    let h : IsForest f = in_order_at f q s there in
    let b = is_within-child f k q h inside other in
    let among : is_among b.child all ≡ true = ap (is_among b.child) is ∙ is_among-children_of f b.child k h ∙ grind (arith, b.up, eqb_tells k k) in
    elim (below.each b.child q among b.inside) [
      | inl waits ↦ absurd (grind (arith, waits, ap (is_among b.child) none))
      | inr done ↦ done
    ]

-- ---- what is gone

-- a node without a parent is the root, where there is one tree
root_alone_at : (f : Forest) (q : ℕ) → IsForest f → roots f ≡ 0 ∷ [] → has q f ≡ true → parent_of f q ≡ None → q ≡ 0
root_alone_at f q h one there top =
    let first : is_among q (0 ∷ []) ≡ true = sym (ap (is_among q) one) ∙ (is_among-firsts key_of f q h.once ∙ rw (there, top) refl) in
    elim (eqb_tells 0 q) [
      | inl same ↦ sym same.1
      | inr other ↦ absurd (grind (arith, first, other.0))
    ]

-- a node that is gone was in the tree of one that is gone and is marked
pub record WentWith (old new : Forest) (touched : ℕ → Bool) (q : ℕ) : Type 0 where
  pub top : ℕ
  pub marked : touched top ≡ true
  pub out : has top new ≡ false
  pub inside : is_within old top q ≡ true

module _ (old new : Forest) (m : Marked) (before : IsForest old) (after : IsForest new) (one : roots old ≡ 0 ∷ [])
    (covered : AreCovered old new (record { touched = is_touched m; noted = is_noted m })) where
  -- by the number of nodes above it
  went_by : (fuel q : ℕ) → length (ancestors old q) < fuel → has q old ≡ true → has q new ≡ false → WentWith old new (is_touched m) q
  went_by zero q few was out = absurd (omega (arith, few))
  went_by (suc fuel) q few was out = elim (cases_option (parent_of old q)) [
    | inl top ↦
        let root : q ≡ 0 = root_alone_at old q before one was top in
        absurd (let clash : true ≡ false = sym (ap (λ k. has k new) root ∙ has-root new after) ∙ out in cc)
    | inr (p, up) ↦ elim (cases_Bool (has p new)) [
      | inl stays ↦ record { top = q; marked = covered.gone q p up stays out; out = out; inside = is_within-self old q ∙ was }
      | inr left ↦
          let above = went_by fuel p (omega (arith, few, ap length (ancestors-step old q p before up))) (has-parent_of old q p up) left in
          record {
            top = above.top;
            marked = above.marked;
            out = above.out;
            inside = elim (cases_eq q above.top) [
              | inl same ↦ ap (λ k. is_within old k q) (sym same) ∙ is_within-self old q ∙ was
              | inr other ↦ is_within-up old above.top q p before up other ∙ above.inside
            ];
          }
    ]
  ]

  -- what isn't listed is as before
  pub as_before : (keys : List ℕ) → ((q : ℕ) → is_touched m q ≡ true → IsListed old new keys q) → (q : ℕ) → is_among q keys ≡ false → IsAsBefore old new q
  as_before keys listed q apart = elim (cases_Bool (has q old)) [
    | inl was ↦ elim (cases_Bool (has q new)) [
      | inl is ↦ elim (cases_Bool (is_touched m q)) [
        | inl marked ↦ absurd (let clash : true ≡ false = sym (listed q marked).itself ∙ apart in cc)
        | inr plain ↦
            let alike = covered.alike q was is plain in
            inr (record { was = was; stays = is; fields = alike.fields; parent = alike.parent; previous = alike.previous; next = alike.next })
      ]
      | inr out ↦
          let went = went_by (length (ancestors old q) + 1) q (omega arith) was out in
          absurd (let clash : true ≡ false = sym ((listed went.top went.marked).below went.out q went.inside) ∙ apart in cc)
    ]
    | inr out ↦ elim (cases_Bool (has q new)) [
      | inl is ↦ absurd (let clash : true ≡ false = sym (listed q (covered.made q out is)).itself ∙ apart in cc)
      | inr gone ↦ inl (out, gone)
    ]
  ]

-- what isn't among the keys wasn't before
pub apart_before : (before after : List ℕ) (q : ℕ) → AreKept before after → is_among q after ≡ false → is_among q before ≡ false
apart_before before after q kept apart = elim (cases_Bool (is_among q before)) [
  | inl was ↦ absurd (let clash : true ≡ false = sym (kept q was) ∙ apart in cc)
  | inr out ↦ out
]

-- keys that stand at the end of others are among these
pub ended_apart : (known keys : List ℕ) (r : Bool) → r ≡ ends_with eqb known keys → r ≡ true → (q : ℕ) → is_among q known ≡ false → is_among q keys ≡ false
ended_apart known keys r is ends q apart =
    apart_before keys known q
    (λ k among. ap (is_among k) ((ends_is Decides-eqb known keys r is).0 ends) ∙ among_back k (take (length known - length keys) known) keys among) apart

-- places that told so much before tell it still
pub outside_told : (told : Bool) (before after : List ℕ) (q : ℕ) → AreKept before after → IsOutside (if told then None else Some after) q
    → IsOutside (if told then None else Some before) q × (is_among q after ≡ false)
outside_told true before after q kept out = absurd out
outside_told false before after q kept out = (apart_before before after q kept out, out)

-- ---- keys that are listed one after another

still_listed : (old new : Forest) (before after : List ℕ) (k : ℕ) → AreKept before after → IsListed old new before k → IsListed old new after k
still_listed old new before after k kept h = record { itself = kept k h.itself; below = λ gone q within. kept q (h.below gone q within) }

-- each element that is marked itself is left, or is listed
pub listed_more : (old new : Forest) (before after : List ℕ) (es : List (ℕ × Bool)) (i : ℕ) (e : ℕ × Bool) (q : ℕ) → i < length es → e ≡ get_or es i e
    → AreKept before after → (e.1 ≡ true → IsListed old new after e.0)
    → (is_true_flag (flag_in (drop i es) q) ≡ true) ⊎ IsListed old new before q
    → (is_true_flag (flag_in (drop (i + 1) es) q) ≡ true) ⊎ IsListed old new after q
listed_more old new before after es i e q less is kept own (inr there) = inr (still_listed old new before after q kept there)
listed_more old new before after es i e q less is kept own (inl marked) =
    let split : drop i es ≡ e ∷ drop (i + 1) es = at_drop_more (λ xs. xs) es i e less ∙ ap (λ (x : ℕ × Bool). x ∷ drop (i + 1) es) (sym is) in
    let first : is_true_flag (flag_in (e ∷ drop (i + 1) es) q) ≡ true = ap (λ xs. is_true_flag (flag_in xs q)) (sym split) ∙ marked in
    elim (eqb_tells q e.0) [
      | inl same ↦ inr (subst (IsListed old new after) (sym same.1) (own (grind (arith, first, same.0))))
      | inr apart ↦ inl (grind (arith, first, apart.0))
    ]

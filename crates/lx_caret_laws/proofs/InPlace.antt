-- What is read in a node where a piece is replaced in one below it: what was read before it, the new piece, and what was read
-- after it.
use Rattle.lx_caret_laws.proofs.ReadLevels.{read-level, reads-append, reads-same, reads_by, reads_known}
use Rattle.lx_caret_laws.specs.Reading.{place_along, place_in, place_on, read_in, reads_in, said, said_by}
use Rattle.lx_draft.proofs.Gaps.{parent_here}
use Rattle.lx_edit_laws.proofs.Reading.{below, below-level, down, spread}
use Rattle.lx_edit_laws.proofs.ReadingPlaces.{in_place_of-self}
use Rattle.lx_edit_laws.specs.Reading.{in_place_of}
use Rattle.lx_forest.proofs.Lookups.{NoRepeats-children_of, has-child, has-parent_of, is_among-children_of}
use Rattle.lx_forest.proofs.Tops.{is_within-child}
use Rattle.lx_forest.proofs.Within.{is_within-apart, is_within-parent, is_within-self, is_within-trans, is_within-up}
use Rattle.lx_forest.specs.Forest.{Forest}
use Rattle.lx_forest.specs.Lookups.{IsForest, alone, children_of, has, is_within, key_of, keys_within, parent_of}
use Rattle.lx_node.specs.declared.cause.Point.{Point}
use Rattle.lx_text.proofs.Places.{length-append, length-none}
use Rattle.lx_text.proofs.Told.{front_at, offset_at, rest_at}
use Rattle.lx_text.specs.Texts.{front_of, is_offset, rest_of, spliced_text, text_length}
use Rattle.lx_trees.proofs.NamedTrees.{is_among-preorder}
use Rattle.lx_trees.specs.Siblings.{NoRepeats, is_among}
use Rattle.std.proofs.Common.{Bool, List, Some, [], ap, append-nil, append_assoc, ap₂, arith, cond, eqb, false, inl, inr, not, refl, subst, sym, true, ℕ, ◌++◌, ◌+◌, ◌||◌, ◌∙◌, ◌∷◌, ◌≡◌, ◌≢◌, ◌⊎◌}
use Rattle.std.proofs.lemmas.Bool.Decides.{eqb_tells}
use Rattle.std.proofs.lemmas.Bool.{cases_Bool, or_parts}

-- ---- lists

-- between two places of a list of characters another piece came
pub record IsIn (n m : ℕ) (new old now : List ℕ) : Type 0 where
  pub front : List ℕ
  pub gone : List ℕ
  pub back : List ℕ
  pub old_is : old ≡ front ++ gone ++ back
  pub now_is : now ≡ front ++ new ++ back
  pub start : text_length front ≡ n
  pub end : text_length (front ++ gone) ≡ m

-- that is a splice
pub is_spliced : (n m : ℕ) (new old now : List ℕ) → IsIn n m new old now → now ≡ spliced_text n m new old
unfolding spliced_text
is_spliced n m new old now i =
    let front : front_of n old ≡ i.front = front_at n i.front (i.gone ++ i.back) old (i.old_is ∙ append_assoc i.front i.gone i.back) i.start in
    let back : rest_of m old ≡ i.back = rest_at m (i.front ++ i.gone) i.back old i.old_is i.end in
    i.now_is ∙ sym (ap₂ (λ a b. a ++ new ++ b) front back)

pub first_place : (n m : ℕ) (new old now : List ℕ) → IsIn n m new old now → is_offset n old ≡ true
first_place n m new old now i = offset_at n i.front (i.gone ++ i.back) old (i.old_is ∙ append_assoc i.front i.gone i.back) i.start

-- the same, said of equal values
pub of_equals : (n m n' m' : ℕ) (new old now old' now' : List ℕ) → n' ≡ n → m' ≡ m → old' ≡ old → now' ≡ now → IsIn n m new old now
    → IsIn n' m' new old' now'
of_equals n m n' m' new old now old' now' start end before after i = record {
  front = i.front;
  gone = i.gone;
  back = i.back;
  old_is = before ∙ i.old_is;
  now_is = after ∙ i.now_is;
  start = i.start ∙ sym start;
  end = i.end ∙ sym end;
}

-- more characters before both and after both
pub wrapped : (n m : ℕ) (new old now before behind : List ℕ) → IsIn n m new old now
    → IsIn (text_length before + n) (text_length before + m) new (before ++ old ++ behind) (before ++ now ++ behind)
wrapped n m new old now before behind i = record {
  front = before ++ i.front;
  gone = i.gone;
  back = i.back ++ behind;
  old_is = ap (λ s. before ++ s ++ behind) i.old_is ∙ regroup before i.front i.gone i.back behind;
  now_is = ap (λ s. before ++ s ++ behind) i.now_is ∙ regroup before i.front new i.back behind;
  start = length-append before i.front ∙ ap (λ k. text_length before + k) i.start;
  end = ap text_length (append_assoc before i.front i.gone) ∙ length-append before (i.front ++ i.gone) ∙ ap (λ k. text_length before + k) i.end;
} where
  regroup : (a b c d e : List ℕ) → a ++ (b ++ c ++ d) ++ e ≡ (a ++ b) ++ c ++ (d ++ e)
  regroup a b c d e =
      ap (λ s. s ++ e) (sym (append_assoc a (b ++ c) d) ∙ ap (λ s. s ++ d) (sym (append_assoc a b c)))
      ∙ append_assoc ((a ++ b) ++ c) d e

-- ---- the keys of a tree

keys-spread : (ks : List ℕ) → spread (λ q. q ∷ []) ks ≡ ks
keys-spread [] = refl
keys-spread (k ∷ ks) = ap (λ t. k ∷ t) (keys-spread ks)

spread-keys : (f : Forest) (ks : List ℕ) → spread (below (λ q. q ∷ []) f) ks ≡ spread (keys_within f) ks
spread-keys f [] = refl
spread-keys f (k ∷ ks) = ap₂ (λ a b. a ++ b) (keys-spread (keys_within f k)) (spread-keys f ks)

-- a node, and then the keys of its children's trees
pub keys-level : (f : Forest) (k : ℕ) → IsForest f → has k f ≡ true → keys_within f k ≡ k ∷ spread (keys_within f) (children_of f k)
keys-level f k h there =
    sym (keys-spread (keys_within f k))
    ∙ below-level (λ q. q ∷ []) f k h (λ free. absurd (let bad : false ≡ true = sym free ∙ there in cc))
    ∙ ap (λ t. k ∷ t) (spread-keys f (children_of f k))

pub among-within : (f : Forest) (b q : ℕ) → is_among q (keys_within f b) ≡ is_within f b q
among-within f b q = is_among-preorder key_of q (alone b f)

-- ---- places along nodes

pub place-append : (f : Forest) (p : Point) (xs ys : List ℕ) → place_along f p (xs ++ ys)
    ≡ cond (is_among p.key xs) (place_along f p xs) (text_length (said_by f xs) + place_along f p ys)
place-append f p [] ys = omega (arith, length-none)
place-append f p (x ∷ xs) ys = elim (eqb_tells p.key x) [
  | inl own ↦ let turned : eqb x p.key ≡ true = grind (arith, own, eqb_tells x p.key) in rw (own.0, turned) refl
  | inr other ↦
      let turned : eqb x p.key ≡ false = grind (arith, other, eqb_tells x p.key) in
      rw (other.0, turned) (ap (λ n. text_length (said f x) + n) (place-append f p xs ys) ∙ elim (cases_Bool (is_among p.key xs)) [
        | inl there ↦ rw there refl
        | inr out ↦ rw out (omega (arith, length-append (said f x) (said_by f xs)))
      ])
]

-- the child in whose tree the point is
pub place-here : (f : Forest) (p : Point) (x : ℕ) (rest : List ℕ) → is_within f x p.key ≡ true
    → place_along f p (keys_within f x ++ rest) ≡ place_in f x p
place-here f p x rest here =
    place-append f p (keys_within f x) rest
    ∙ ap (λ b. cond b (place_in f x p) (text_length (read_in f x) + place_along f p rest)) (among-within f x p.key ∙ here)

pub place-behind : (f : Forest) (p : Point) (x : ℕ) (rest : List ℕ) → is_within f x p.key ≡ false
    → place_along f p (keys_within f x ++ rest) ≡ text_length (read_in f x) + place_along f p rest
place-behind f p x rest out =
    place-append f p (keys_within f x) rest
    ∙ ap (λ b. cond b (place_in f x p) (text_length (read_in f x) + place_along f p rest)) (among-within f x p.key ∙ out)

-- a point below a node
pub place-level : (f : Forest) (p : Point) (b : ℕ) → IsForest f → has b f ≡ true → p.key ≢ b
    → place_in f b p ≡ text_length (said f b) + place_along f p (spread (keys_within f) (children_of f b))
place-level f p b h there other =
    let off : eqb p.key b ≡ false = grind (arith, other, eqb_tells p.key b) in
    ap (place_along f p) (keys-level f b h there)
    ∙ ap (λ t. cond t (place_on f p p.kind) (text_length (said f b) + place_along f p (spread (keys_within f) (children_of f b)))) off

-- ---- trees

-- of two children of a node neither is in the other's tree, so that nothing is in both
pub apart_children : (f : Forest) (x c b q : ℕ) → IsForest f → parent_of f x ≡ Some b → parent_of f c ≡ Some b → x ≢ c → is_within f c q ≡ true
    → is_within f x q ≡ false
apart_children f x c b q h up over other inside =
    let one : is_within f x c ≡ false = is_within-up f x c b h over (λ e. other (sym e)) ∙ is_within-parent f x b h up in
    let two : is_within f c x ≡ false = is_within-up f c x b h up other ∙ is_within-parent f c b h over in
    let none = is_within-apart f c x q h one two in
    grind (arith, none, inside)

-- a node above another isn't below it
pub above_not_below : (f : Forest) (b base : ℕ) → IsForest f → is_within f b base ≡ true → b ≢ base → is_within f base b ≡ false
above_not_below f b base h inside other =
    let child = is_within-child f b base h inside (λ e. other (sym e)) in
    elim (cases_Bool (is_within f base b)) [
      | inl below ↦
          let round : is_within f child.child b ≡ true = is_within-trans f child.child base b h child.inside below in
          absurd (let bad : false ≡ true = sym (is_within-parent f child.child b h child.up) ∙ round in cc)
      | inr out ↦ out
    ]

-- What changed from f to g is below the node base, and above the node m or at it: all other nodes say the same, and have the
-- same children.
pub record OnlyAt (f g : Forest) (base m : ℕ) : Type 0 where
  pub ordered : IsForest f
  pub order_after : IsForest g
  pub there : has base f ≡ true
  pub holds : is_within f base m ≡ true
  pub says : (x : ℕ) → has x f ≡ true → (is_within f x m ≡ false) ⊎ (is_within f base x ≡ false) → said g x ≡ said f x
  pub children : (x : ℕ) → has x f ≡ true → (is_within f x m ≡ false) ⊎ (is_within f base x ≡ false) → children_of g x ≡ children_of f x

pub below_parent : (f : Forest) (x b : ℕ) → IsForest f → parent_of f x ≡ Some b → is_within f b x ≡ true
below_parent f x b h up =
    let apart : x ≢ b = λ e. absurd (grind (arith, up, e, is_within-parent f x b h up, is_within-self f b, has-parent_of f x b up)) in
    is_within-up f b x b h up apart ∙ is_within-self f b ∙ has-parent_of f x b up

-- what isn't in the tree of a node isn't in that of its child
pub out_below : (f : Forest) (x b m : ℕ) → IsForest f → parent_of f x ≡ Some b → is_within f b m ≡ false → is_within f x m ≡ false
out_below f x b m h up out = elim (cases_Bool (is_within f x m)) [
  | inl reached ↦ absurd (let bad : false ≡ true = sym out ∙ is_within-trans f b x m h (below_parent f x b h up) reached in cc)
  | inr far ↦ far
]

module _ (f g : Forest) (base m : ℕ) (o : OnlyAt f g base m) where
  abbrev skip : ℕ → Bool
  skip x = not (has x f) || is_within f x m

  -- where the node m isn't below, the same is read
  pub read_elsewhere : (b : ℕ) → has b f ≡ true → is_within f b m ≡ false → read_in g b ≡ read_in f b
  read_elsewhere b so out = reads_by f g skip o.ordered o.order_after (λ b clear known.
      let c = or_parts (not (has b f)) (is_within f b m) clear in
      let so : has b f ≡ true = grind (arith, c.0) in
      record {
        own = o.says b so (inl c.1);
        below = ap (reads_in g) (o.children b so (inl c.1)) ∙ reads_known f g skip b o.ordered known (λ x up.
            grind (arith, has-child f x b up, out_below f x b m o.ordered up c.1));
      }) b (grind (arith, so, out))

  module _ (p q : Point) (new : List ℕ) (p_on : p.key ≡ m) (q_on : q.key ≡ m) where
    -- children of a node, one of which has the place in its tree, with others in place of that
    pub among : (b c : ℕ) (ks xs : List ℕ) → NoRepeats xs → ((x : ℕ) → is_among x xs ≡ true → parent_of f x ≡ Some b) → is_among c xs ≡ true
        → is_within f c m ≡ true
        → IsIn (place_in f c p) (place_in f c q) new (read_in f c) (reads_in g ks)
        → IsIn (place_along f p (spread (keys_within f) xs)) (place_along f q (spread (keys_within f) xs)) new (reads_in f xs)
        (reads_in g (in_place_of c ks xs))
    among b c ks [] once up there holds inside = absurd (cc)
    among b c ks (x ∷ xs) once up there holds inside = elim (eqb_tells x c) [
      | inl own ↦
          let first : is_within f x p.key ≡ true = ap₂ (λ y z. is_within f y z) own.1 p_on ∙ holds in
          let second : is_within f x q.key ≡ true = ap₂ (λ y z. is_within f y z) own.1 q_on ∙ holds in
          let rest : reads_in g xs ≡ reads_in f xs =
          reads-same f g xs (λ y at.
          let up_y : parent_of f y ≡ Some b = up y (grind (arith, at)) in
          let up_c : parent_of f c ≡ Some b = up c (grind (arith, own, eqb_tells x c)) in
          read_elsewhere y (has-child f y b up_y)
          (apart_children f y c b m o.ordered up_y up_c (λ e. absurd (grind (arith, e, own, at, once.0))) holds)) in
          let here : IsIn (place_in f x p) (place_in f x q) new (read_in f x) (reads_in g ks) =
          subst (λ y. IsIn (place_in f y p) (place_in f y q) new (read_in f y) (reads_in g ks)) (sym own.1) inside in
          let more = wrapped (place_in f x p) (place_in f x q) new (read_in f x) (reads_in g ks) [] (reads_in f xs) here in
          let n_is : place_along f p (spread (keys_within f) (x ∷ xs)) ≡ text_length [] + place_in f x p =
          omega (arith, place-here f p x (spread (keys_within f) xs) first, length-none) in
          let m_is : place_along f q (spread (keys_within f) (x ∷ xs)) ≡ text_length [] + place_in f x q =
          omega (arith, place-here f q x (spread (keys_within f) xs) second, length-none) in
          let now_is : reads_in g (in_place_of c ks (x ∷ xs)) ≡ reads_in g ks ++ reads_in f xs =
          ap (λ t. reads_in g (cond t (ks ++ xs) (x ∷ in_place_of c ks xs))) own.0 ∙ reads-append g ks xs ∙ ap (λ t. reads_in g ks ++ t) rest in
          of_equals _ _ _ _ new _ _ (reads_in f (x ∷ xs)) (reads_in g (in_place_of c ks (x ∷ xs))) n_is m_is refl now_is more
      | inr other ↦
          let up_x : parent_of f x ≡ Some b = up x (grind (arith, eqb_tells x x)) in
          let up_c : parent_of f c ≡ Some b = up c there in
          let far : is_within f x m ≡ false = apart_children f x c b m o.ordered up_x up_c other.1 holds in
          let same : read_in g x ≡ read_in f x = read_elsewhere x (has-child f x b up_x) far in
          let later : is_among c xs ≡ true = grind (arith, there, other) in
          let inner = among b c ks xs once.1 (λ y at. up y (grind (arith, at))) later holds inside in
          let keys : List ℕ = spread (keys_within f) xs in
          let more = wrapped (place_along f p keys) (place_along f q keys) new (reads_in f xs) (reads_in g (in_place_of c ks xs))
          (read_in f x) [] inner in
          let n_is = place-behind f p x keys (ap (is_within f x) p_on ∙ far) in
          let m_is = place-behind f q x keys (ap (is_within f x) q_on ∙ far) in
          let now_is : reads_in g (in_place_of c ks (x ∷ xs)) ≡ read_in f x ++ reads_in g (in_place_of c ks xs) =
          ap (λ t. reads_in g (cond t (ks ++ xs) (x ∷ in_place_of c ks xs))) other.0 ∙ ap (λ t. t ++ reads_in g (in_place_of c ks xs)) same in
          of_equals _ _ _ _ new _ _ (reads_in f (x ∷ xs)) (reads_in g (in_place_of c ks (x ∷ xs))) n_is m_is (sym (append-nil (reads_in f (x ∷ xs))))
          (now_is ∙ sym (append-nil (read_in f x ++ reads_in g (in_place_of c ks xs)))) more
    ]

    -- a node whose children have others in the place of one that the points are in
    pub read_level : (b c : ℕ) (ks : List ℕ) → parent_of f c ≡ Some b → is_within f c m ≡ true → said g b ≡ said f b
        → children_of g b ≡ in_place_of c ks (children_of f b) → IsIn (place_in f c p) (place_in f c q) new (read_in f c) (reads_in g ks)
        → IsIn (place_in f b p) (place_in f b q) new (read_in f b) (read_in g b)
    read_level b c ks up holds says order inside =
        let there : has b f ≡ true = has-parent_of f c b up in
        let xs : List ℕ = children_of f b in
        let keys : List ℕ = spread (keys_within f) xs in
        let at : is_among c xs ≡ true = grind (arith, is_among-children_of f c b o.ordered, up, eqb_tells b b) in
        let inner = among b c ks xs (NoRepeats-children_of f b o.ordered) (λ x at. parent_here f b x o.ordered at) at holds inside in
        let more = wrapped (place_along f p keys) (place_along f q keys) new (reads_in f xs) (reads_in g (in_place_of c ks xs)) (said f b) [] inner in
        let off : m ≢ b = λ e. absurd (grind (arith, e, holds, is_within-parent f c b o.ordered up)) in
        let n_is = place-level f p b o.ordered there (λ e. off (sym p_on ∙ e)) in
        let m_is = place-level f q b o.ordered there (λ e. off (sym q_on ∙ e)) in
        let old_is : read_in f b ≡ said f b ++ reads_in f xs = read-level f b o.ordered in
        let now_is : read_in g b ≡ said f b ++ reads_in g (in_place_of c ks xs) =
        read-level g b o.order_after ∙ ap₂ (λ s ys. s ++ reads_in g ys) says order in
        of_equals _ _ _ _ new _ _ (read_in f b) (read_in g b) n_is m_is (old_is ∙ sym (append-nil (said f b ++ reads_in f xs)))
        (now_is ∙ sym (append-nil (said f b ++ reads_in g (in_place_of c ks xs)))) more

    -- in the node, and in each node above it
    pub read_above : IsIn (place_in f base p) (place_in f base q) new (read_in f base) (read_in g base) → (b : ℕ) → is_within f b base ≡ true
        → IsIn (place_in f b p) (place_in f b q) new (read_in f b) (read_in g b)
    read_above inside b = down f o.ordered (λ b. is_within f b base ≡ true → IsIn (place_in f b p) (place_in f b q) new (read_in f b) (read_in g b))
        (λ b each over. elim (eqb_tells b base) [
          | inl own ↦ subst (λ x. IsIn (place_in f x p) (place_in f x q) new (read_in f x) (read_in g x)) (sym own.1) inside
          | inr other ↦
              let out : is_within f base b ≡ false = above_not_below f b base o.ordered over other.1 in
              let child = is_within-child f b base o.ordered over (λ e. other.1 (sym e)) in
              let c : ℕ = child.child in
              let there : has b f ≡ true = has-parent_of f c b child.up in
              let one = each c child.up child.inside in
              read_level b c (c ∷ []) child.up (is_within-trans f c base m o.ordered child.inside o.holds) (o.says b there (inr out))
              (o.children b there (inr out) ∙ sym (in_place_of-self c (children_of f b)))
              (of_equals _ _ _ _ new _ _ (read_in f c) (reads_in g (c ∷ [])) refl refl refl (append-nil (read_in g c)) one)
        ]) b

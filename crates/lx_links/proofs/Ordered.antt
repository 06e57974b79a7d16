-- The ways up from two keys, and which comes first.
use Rattle.std.proofs.Common.{ℕ, ◌≡◌, ◌≢◌, ◌-◌, ◌<◌, Bool, true, false, cond, eqb, ◌&&◌, length, List, Option, None, Some, inl, inr, ◌⊎◌, refl, sym, ap, ◌∙◌, subst, arith}
use Rattle.std.specs.Prelude.{unwrap_or}
use Rattle.std.specs.List.{slice_get}
use Rattle.std.specs.declared.cmp.Ordering.{Ordering}
use Rattle.std.specs.declared.cmp.Ordering.TheVariants.{Less, Equal, Greater}
use Rattle.std.specs.Ordering.{nat_cmp}
use Rattle.std.proofs.lemmas.Cmp.{ranked}
use Rattle.std.proofs.lemmas.Bool.{cases_Bool, false≢true}
use Rattle.std.proofs.lemmas.Bool.Decides.{eqb_tells}
use Rattle.lx_trees.specs.Trees.{nil, tree}
use Rattle.lx_trees.specs.Siblings.{is_among, is_named, index_in}
use Rattle.lx_forest.specs.Forest.{Forest}
use Rattle.lx_forest.specs.Lookups.{has, parent_of, children_of, children_below, ancestors, is_within, is_attached, depth, index_of, order_of, order_between}
use Rattle.lx_forest.proofs.Lookups.{has-parent_of, parent_of-self, is_among-children_of}
use Rattle.lx_trees.proofs.Positions.{place_in, slice_get-place_in, index_in-among}
use Rattle.lx_forest.proofs.Walks.{order_of-below, order_of-children, order_of-self, order_of-detached}
use Rattle.lx_forest.proofs.Within.{is_within-self, is_within-up, is_within-trans}
use Rattle.lx_links.specs.Stands.{Sound}
use Rattle.lx_links.specs.Parted.{same_named, IsLevel, IsParted}
use Rattle.lx_links.proofs.Up.{in_order, in_order_at, one_up, none_up, attached_up, not_within, within_top}

-- ---- one step up

named_self : (o : Option ℕ) (q p : ℕ) → is_named o q ≡ false → o ≡ Some p → q ≢ p
named_self o q p e is same = let h : eqb q p ≡ false = sym (ap (λ o. is_named o q) is) ∙ e in grind (arith, h, eqb_tells q p, same)

parent_holds : (f : Forest) (q p : ℕ) → Sound f → parent_of f q ≡ Some p → is_within f p q ≡ true
parent_holds f q p s up =
    is_within-up f p q p (in_order f q p s up) up (named_self (parent_of f q) q p (parent_of-self f q (in_order f q p s up)) up)
    ∙ is_within-self f p ∙ has-parent_of f q p up

within_above : (f : Forest) (at key : ℕ) (o : Option ℕ) → Sound f → parent_of f at ≡ o → is_within f at key ≡ true → is_within f (unwrap_or o at) key ≡ true
within_above f at key None s up e = e
within_above f at key (Some p) s up e = is_within-trans f p at key (in_order f at p s up) (parent_holds f at p s up) e

pub above_within : (f : Forest) (at up key : ℕ) → Sound f → up ≡ unwrap_or (parent_of f at) at → is_within f at key ≡ true → is_within f up key ≡ true
above_within f at up key s is e = ap (λ x. is_within f x key) is ∙ within_above f at key (parent_of f at) s refl e

pub above_has : (f : Forest) (at up key : ℕ) → Sound f → up ≡ unwrap_or (parent_of f at) at → is_within f at key ≡ has key f → is_within f up key ≡ has key f
above_has f at up key s is e = elim (cases_Bool (has key f)) [
  | inl there ↦ above_within f at up key s is (e ∙ there) ∙ sym there
  | inr absent ↦ not_within f up key absent ∙ sym absent
]

fewer_above : (f : Forest) (at : ℕ) (o : Option ℕ) → Sound f → parent_of f at ≡ o → length (ancestors f (unwrap_or o at)) ≡ length (ancestors f at) - 1
fewer_above f at None s up = omega (arith, none_up f at up)
fewer_above f at (Some p) s up = omega (arith, one_up f at p s up)

pub above_fewer : (f : Forest) (at up : ℕ) → Sound f → up ≡ unwrap_or (parent_of f at) at → length (ancestors f up) ≡ length (ancestors f at) - 1
above_fewer f at up s is = ap (λ x. length (ancestors f x)) is ∙ fewer_above f at (parent_of f at) s refl

attached_above : (f : Forest) (at : ℕ) (o : Option ℕ) → Sound f → parent_of f at ≡ o → is_attached f (unwrap_or o at) ≡ is_attached f at
attached_above f at None s up = refl
attached_above f at (Some p) s up = sym (attached_up f at p s up)

pub above_attached : (f : Forest) (at up : ℕ) → Sound f → up ≡ unwrap_or (parent_of f at) at → is_attached f up ≡ is_attached f at
above_attached f at up s is = ap (is_attached f) is ∙ attached_above f at (parent_of f at) s refl

pub there_within : (f : Forest) (k q : ℕ) → is_within f k q ≡ true → has q f ≡ true
there_within f k q e = elim (cases_Bool (has q f)) [ inl there ↦ there | inr absent ↦ absurd (false≢true (sym (not_within f k q absent) ∙ e)) ]

-- ---- two steps up

pub record Higher (f : Forest) (x y up_x up_y : ℕ) : Type 0 where
  pub level : IsLevel f up_x up_y
  pub fewer : length (ancestors f up_x) < length (ancestors f x)

both_up : (f : Forest) (x y : ℕ) (o r : Option ℕ) → IsLevel f x y → parent_of f x ≡ o → parent_of f y ≡ r → same_named o r ≡ false
    → Higher f x y (unwrap_or o x) (unwrap_or r y)
both_up f x y None None h e k apart = cc
both_up f x y None (Some q) h e k apart = absurd (omega (arith, none_up f x e, one_up f y q h.sound k, h.level))
both_up f x y (Some p) None h e k apart = absurd (omega (arith, one_up f x p h.sound e, none_up f y k, h.level))
both_up f x y (Some p) (Some q) h e k apart = record {
  level = record {
    sound = h.sound;
    other = grind (arith, apart, eqb_tells p q);
    first = sym (attached_up f x p h.sound e) ∙ h.first;
    second = sym (attached_up f y q h.sound k) ∙ h.second;
    level = omega (arith, one_up f x p h.sound e, one_up f y q h.sound k, h.level);
  };
  fewer = omega (arith, one_up f x p h.sound e);
}

pub higher : (f : Forest) (x y up_x up_y : ℕ) → IsLevel f x y → same_named (parent_of f x) (parent_of f y) ≡ false → up_x ≡ unwrap_or (parent_of f x) x
    → up_y ≡ unwrap_or (parent_of f y) y → Higher f x y up_x up_y
higher f x y up_x up_y h apart e k =
    let P : ℕ → Type 0 = λ z. Higher f x y z up_y in
    let Q : ℕ → Type 0 = λ z. Higher f x y (unwrap_or (parent_of f x) x) z in
    subst P (sym e) (subst Q (sym k) (both_up f x y (parent_of f x) (parent_of f y) h refl refl apart))

attached_root : (f : Forest) (x : ℕ) → Sound f → is_attached f x ≡ true → parent_of f x ≡ None → x ≡ 0
attached_root f x s e up = elim (eqb_tells x 0) [
  | inl is ↦ is.1
  | inr other ↦ absurd (false≢true (sym (within_top f 0 x s up other.1) ∙ e))
]

meet : (f : Forest) (a b x y : ℕ) (o r : Option ℕ) → IsLevel f x y → parent_of f x ≡ o → parent_of f y ≡ r → same_named o r ≡ true → is_within f x a ≡ true
    → is_within f y b ≡ true → IsParted f a b x y
meet f a b x y None None h e k same first second = absurd (h.other (attached_root f x h.sound h.first e ∙ sym (attached_root f y h.sound h.second k)))
meet f a b x y None (Some q) h e k same first second = cc
meet f a b x y (Some p) None h e k same first second = cc
meet f a b x y (Some p) (Some q) h e k same first second = record {
  parent = p;
  first_below = e;
  second_below = k ∙ ap (λ n. Some n) (let is : q ≡ p = grind (arith, same, eqb_tells p q) in is);
  other = h.other;
  attached = sym (attached_up f x p h.sound e) ∙ h.first;
  first = first;
  second = second;
}

pub met : (f : Forest) (a b x y : ℕ) → IsLevel f x y → same_named (parent_of f x) (parent_of f y) ≡ true → is_within f x a ≡ true → is_within f y b ≡ true
    → IsParted f a b x y
met f a b x y h same first second = meet f a b x y (parent_of f x) (parent_of f y) h refl refl same first second

-- ---- which comes first

compared_as : (m n : ℕ) (r : Ordering) → r ≡ nat_cmp m n
    → ((nat_cmp m n ≡ Less) × (m < n)) ⊎ (((nat_cmp m n ≡ Equal) × (m ≡ n)) ⊎ ((nat_cmp m n ≡ Greater) × (n < m)))
compared_as m n Less e = inl (sym e, ranked m n Less e)
compared_as m n Equal e = inr (inl (sym e, ranked m n Equal e))
compared_as m n Greater e = inr (inr (sym e, ranked m n Greater e))

compared : (m n : ℕ) → ((nat_cmp m n ≡ Less) × (m < n)) ⊎ (((nat_cmp m n ≡ Equal) × (m ≡ n)) ⊎ ((nat_cmp m n ≡ Greater) × (n < m)))
compared m n = compared_as m n (nat_cmp m n) refl

depth_tells : (f : Forest) (q m : ℕ) (b : Bool) → is_attached f q ≡ b → cond b (Some (length (ancestors f q))) None ≡ Some m
    → (is_attached f q ≡ true) × (length (ancestors f q) ≡ m)
depth_tells f q m true e h = (e, grind (arith, h))
depth_tells f q m false e h = cc

pub deep : (f : Forest) (q m : ℕ) → depth f q ≡ Some m → (is_attached f q ≡ true) × (length (ancestors f q) ≡ m)
deep f q m h = depth_tells f q m (is_attached f q) refl h

not_deep : (f : Forest) (q : ℕ) (b : Bool) → is_attached f q ≡ b → cond b (Some (length (ancestors f q))) None ≡ None → is_attached f q ≡ false
not_deep f q true e h = cc
not_deep f q false e h = e

detached_order : (f : Forest) (a b : ℕ) → Sound f → (is_attached f a && is_attached f b) ≡ false → order_of f a b ≡ None
detached_order nil a b s e = refl
detached_order (tree l below rest) a b s e = order_of-detached (tree l below rest) a b (s.in_order (λ no. cc)) e

pub none_first : (f : Forest) (a b : ℕ) → Sound f → depth f a ≡ None → None ≡ order_of f a b
none_first f a b s e = sym (detached_order f a b s (ap (λ t. t && is_attached f b) (not_deep f a (is_attached f a) refl e)))

and_false : (t : Bool) → (t && false) ≡ false
and_false true = refl
and_false false = refl

pub none_second : (f : Forest) (a b : ℕ) → Sound f → depth f b ≡ None → None ≡ order_of f a b
none_second f a b s e = sym (detached_order f a b s (ap (λ t. is_attached f a && t) (not_deep f b (is_attached f b) refl e) ∙ and_false (is_attached f a)))

-- what is known of a key that was raised
pub record Raised (f : Forest) (key steps up : ℕ) : Type 0 where
  pub within : is_within f up key ≡ has key f
  pub above : length (ancestors f up) ≡ length (ancestors f key) - steps
  pub same : steps ≡ 0 → up ≡ key
  pub attached : is_attached f up ≡ is_attached f key

pub raised_by : (f : Forest) (key steps given up : ℕ) → given ≡ steps → is_within f up key ≡ has key f
    → length (ancestors f up) ≡ length (ancestors f key) - given → (given ≡ 0 → up ≡ key) → is_attached f up ≡ is_attached f key → Raised f key steps up
raised_by f key steps given up is within above same attached = record {
  within = within;
  above = above ∙ ap (λ n. length (ancestors f key) - n) is;
  same = λ e. same (is ∙ e);
  attached = attached;
}

pub test_equal : (x y : ℕ) → eqb x y ≡ true → x ≡ y
test_equal x y e = grind (arith, e, eqb_tells x y)

pub test_apart : (x y : ℕ) → eqb x y ≡ false → x ≢ y
test_apart x y e = grind (arith, e, eqb_tells x y)

pub one_above : (f : Forest) (a b m n x y : ℕ) → Sound f → depth f a ≡ Some m → depth f b ≡ Some n → Raised f a (m - n) x → Raised f b (n - m) y → x ≡ y
    → order_of f a b ≡ Some (nat_cmp m n)
one_above f a b m n x y s da db rx ry same =
    let up_a = deep f a m da in
    let up_b = deep f b n db in
    let h = in_order_at f a s (there_within f 0 a up_a.0) in
    elim (compared m n) [
      | inl less ↦
          let is : y ≡ a = sym same ∙ rx.same (omega (arith, less.1)) in
          let under : is_within f a b ≡ true = ap (λ z. is_within f z b) (sym is) ∙ ry.within ∙ there_within f 0 b up_b.0 in
          (order_of-below f a b h up_a.0 under (λ e. omega (arith, up_a.1, up_b.1, less.1, ap (λ z. length (ancestors f z)) e))).0
          ∙ ap (λ o. Some o) (sym less.0)
      | inr (inl even) ↦
          let is : b ≡ a = sym (ry.same (omega (arith, even.1))) ∙ sym same ∙ rx.same (omega (arith, even.1)) in
          ap (order_of f a) is ∙ order_of-self f a h up_a.0 ∙ ap (λ o. Some o) (sym even.0)
      | inr (inr more) ↦
          let is : x ≡ b = same ∙ ry.same (omega (arith, more.1)) in
          let under : is_within f b a ≡ true = ap (λ z. is_within f z a) (sym is) ∙ rx.within ∙ there_within f 0 a up_a.0 in
          (order_of-below f b a h up_b.0 under (λ e. omega (arith, up_a.1, up_b.1, more.1, ap (λ z. length (ancestors f z)) e))).1
          ∙ ap (λ o. Some o) (sym more.0)
    ]

pub levelled : (f : Forest) (a b m n x y : ℕ) → Sound f → depth f a ≡ Some m → depth f b ≡ Some n → Raised f a (m - n) x → Raised f b (n - m) y → x ≢ y
    → IsLevel f x y
levelled f a b m n x y s da db rx ry other =
    let up_a = deep f a m da in
    let up_b = deep f b n db in
    record {
      sound = s;
      other = other;
      first = rx.attached ∙ up_a.0;
      second = ry.attached ∙ up_b.0;
      level = omega (arith, up_a.1, up_b.1, rx.above, ry.above);
    }

apart_places : (xs : List ℕ) (x y i j : ℕ) → slice_get xs i ≡ Some x → slice_get xs j ≡ Some y → x ≢ y → i ≢ j
apart_places xs x y i j e k other same = other (let is : Some x ≡ Some y = sym e ∙ ap (slice_get xs) same ∙ k in grind (arith, is))

pub siblings_order : (f : Forest) (a b m n x y u v : ℕ) → Sound f → depth f a ≡ Some m → depth f b ≡ Some n → Raised f a (m - n) x → Raised f b (n - m) y
    → IsParted f x y u v → order_between (index_of f u) (index_of f v) ≡ order_of f a b
siblings_order f a b m n x y u v s da db rx ry h =
    let up_a = deep f a m da in
    let up_b = deep f b n db in
    let i = in_order f u h.parent s h.first_below in
    let kids = children_of f h.parent in
    let among_u : is_among u kids ≡ true =
    is_among-children_of f u h.parent i ∙ ap (λ o. is_named o h.parent) h.first_below ∙ grind (arith, eqb_tells h.parent h.parent) in
    let among_v : is_among v kids ≡ true =
    is_among-children_of f v h.parent i ∙ ap (λ o. is_named o h.parent) h.second_below ∙ grind (arith, eqb_tells h.parent h.parent) in
    let at_u = slice_get-place_in kids u among_u in
    let at_v = slice_get-place_in kids v among_v in
    let index_u = index_in-among kids u among_u in
    let index_v = index_in-among kids v among_v in
    let under_u : is_within f u a ≡ true = is_within-trans f u x a i h.first (rx.within ∙ there_within f 0 a up_a.0) in
    let under_v : is_within f v b ≡ true = is_within-trans f v y b i h.second (ry.within ∙ there_within f 0 b up_b.0) in
    ap (λ o. order_between (index_in (children_below f o) u) (index_of f v)) h.first_below
    ∙ ap (λ o. order_between (index_in kids u) (index_in (children_below f o) v)) h.second_below
    ∙ ap (λ o. order_between o (index_in kids v)) index_u ∙ ap (order_between (Some (place_in kids u))) index_v
    ∙ elim (compared (place_in kids u) (place_in kids v)) [
      | inl less ↦
          ap (λ o. Some o) less.0
          ∙ sym (order_of-children f h.parent u v a b i h.attached
          (record { first = place_in kids u; second = place_in kids v; first_is = index_u; second_is = index_v; before = less.1 }) under_u under_v).0
      | inr (inl even) ↦ absurd (apart_places kids u v (place_in kids u) (place_in kids v) at_u at_v h.other even.1)
      | inr (inr more) ↦
          ap (λ o. Some o) more.0
          ∙ sym (order_of-children f h.parent v u b a i h.attached
          (record { first = place_in kids v; second = place_in kids u; first_is = index_v; second_is = index_u; before = more.1 }) under_v under_u).1
    ]

-- The children of one node that went after those of another: what is read then, and where a point of either is.
use Rattle.lx_caret_laws.proofs.BreakStarts.{at_element, at_itself}
use Rattle.lx_caret_laws.proofs.BrokenParts.{among_take}
use Rattle.lx_caret_laws.proofs.Covers.{among_trees}
use Rattle.lx_caret_laws.proofs.InPlace.{above_not_below, among-within, keys-level, out_below, place-append, place-behind, place-level}
use Rattle.lx_caret_laws.proofs.ReadLevels.{read-level, reads-append, reads-same, reads_by, reads_known}
use Rattle.lx_caret_laws.proofs.TypedNew.{has_label, said_label}
use Rattle.lx_caret_laws.specs.Reading.{place_along, place_in, place_on, read_in, reads_in, said, said_by}
use Rattle.lx_draft.proofs.Gaps.{parent_here}
use Rattle.lx_edit.specs.Edits.{element_point, text_point}
use Rattle.lx_edit_laws.proofs.Reading.{down, spread, spread-append, spread-same}
use Rattle.lx_forest.proofs.Lookups.{has-child, is_among-children_of}
use Rattle.lx_forest.proofs.Tops.{is_within-child}
use Rattle.lx_forest.proofs.Within.{is_within-apart, is_within-parent, is_within-self, is_within-trans}
use Rattle.lx_forest.specs.Forest.{Forest}
use Rattle.lx_forest.specs.Lookups.{IsForest, children_of, has, is_within, keys_within, label_of, parent_of, size_of}
use Rattle.lx_node.specs.declared.cause.Point.{Point}
use Rattle.lx_node.specs.declared.cause.PointKind.TheVariants as point
use Rattle.lx_node.specs.declared.cause.PointKind.{PointKind}
use Rattle.lx_text.proofs.Places as places
use Rattle.lx_text.proofs.Places.{length-none}
use Rattle.lx_text.specs.Texts.{text_length}
use Rattle.lx_trees.proofs.Siblings.{is_among-append}
use Rattle.lx_trees.specs.Siblings.{is_among}
use Rattle.std.proofs.Common.{Bool, List, Some, [], ap, append_assoc, ap₂, arith, cond, eqb, false, inl, inr, length, refl, suc, sym, true, zero, ℕ, ◌++◌, ◌+◌, ◌||◌, ◌∙◌, ◌∷◌, ◌≡◌, ◌≢◌, ◌≤◌}
use Rattle.std.proofs.lemmas.Bool.Decides.{eqb_tells}
use Rattle.std.proofs.lemmas.Bool.{cases_Bool, or_parts}
use Rattle.std.specs.Prelude.{take}

-- ---- lists

-- the first of a list, and of a longer one
take_front : (n : ℕ) (xs ys : List ℕ) → n ≤ length xs → take n (xs ++ ys) ≡ take n xs
take_front zero xs ys few = refl
take_front (suc n) [] ys few = absurd (omega (arith, few))
take_front (suc n) (x ∷ xs) ys few = ap (λ t. x ∷ t) (take_front n xs ys (omega (arith, few)))

pub take_all : (xs : List ℕ) → take (length xs) xs ≡ xs
take_all [] = refl
take_all (x ∷ xs) = ap (λ t. x ∷ t) (take_all xs)

-- past trees in which the point isn't
pub past : (f : Forest) (p : Point) (cs ds : List ℕ) → ((c : ℕ) → is_among c cs ≡ true → is_within f c p.key ≡ false)
    → place_along f p (spread (keys_within f) (cs ++ ds)) ≡ text_length (reads_in f cs) + place_along f p (spread (keys_within f) ds)
past f p [] ds out = omega (arith, length-none)
past f p (c ∷ cs) ds out =
    let here = place-behind f p c (spread (keys_within f) (cs ++ ds)) (out c (grind (arith, eqb_tells c c))) in
    let more = past f p cs ds (λ x among. out x (grind (arith, among))) in
    omega (arith, here, more, places.length-append (read_in f c) (reads_in f cs))

-- ---- the forests

-- the children of a second node went after those of a first, neither of which is in the other, and no other node that holds neither
-- changed
pub record IsSetIn (f g : Forest) (first second : ℕ) : Type 0 where
  pub ordered : IsForest f
  pub order_after : IsForest g
  pub there_first : has first f ≡ true
  pub there_second : has second f ≡ true
  pub first_off : is_within f first second ≡ false
  pub second_off : is_within f second first ≡ false
  pub silent : said f second ≡ []
  pub labels : (q : ℕ) → label_of g q ≡ label_of f q
  pub joined : children_of g first ≡ children_of f first ++ children_of f second
  pub children_aside : (b : ℕ) → is_within f b first ≡ false → is_within f b second ≡ false → children_of g b ≡ children_of f b

module _ (f g : Forest) (first second : ℕ) (l : IsSetIn f g first second) where
  h : IsForest f
  h = l.ordered

  j : IsForest g
  j = l.order_after

  abbrev ones : List ℕ
  ones = children_of f first

  abbrev twos : List ℕ
  twos = children_of f second

  there_first : has first f ≡ true
  there_first = l.there_first

  own_first : is_within f first first ≡ true
  own_first = is_within-self f first ∙ there_first

  first_off : is_within f first second ≡ false
  first_off = l.first_off

  second_off : is_within f second first ≡ false
  second_off = l.second_off

  children_aside : (b : ℕ) → is_within f b first ≡ false → is_within f b second ≡ false → children_of g b ≡ children_of f b
  children_aside = l.children_aside

  pub says : (q : ℕ) → said g q ≡ said f q
  says q = said_label f g q (l.labels q)

  still : (q : ℕ) → has q f ≡ true → has q g ≡ true
  still q so = has_label f g q so (l.labels q)

  -- ---- nodes that neither line is in

  abbrev holds_one : ℕ → Bool
  holds_one x = is_within f x first || is_within f x second

  pub read_aside : (b : ℕ) → is_within f b first ≡ false → is_within f b second ≡ false → read_in g b ≡ read_in f b
  read_aside b one two = reads_by f g holds_one h j (λ b clear known.
      let c = or_parts (is_within f b first) (is_within f b second) clear in
      record {
        own = says b;
        below = ap (reads_in g) (children_aside b c.0 c.1) ∙ reads_known f g holds_one b h known (λ x up.
            grind (arith, out_below f x b first h up c.0, out_below f x b second h up c.1));
      }) b (grind (arith, one, two))

  keys_aside : (b : ℕ) → has b f ≡ true → is_within f b first ≡ false → is_within f b second ≡ false → keys_within g b ≡ keys_within f b
  keys_aside b = down f h (λ b. has b f ≡ true → is_within f b first ≡ false → is_within f b second ≡ false → keys_within g b ≡ keys_within f b)
      (λ b each so one two.
      keys-level g b j (still b so)
      ∙ ap (λ ks. b ∷ spread (keys_within g) ks) (children_aside b one two)
      ∙ ap (λ t. b ∷ t) (spread-same (keys_within g) (keys_within f) (children_of f b) (λ c among.
      let up : parent_of f c ≡ Some b = parent_here f b c h among in
      each c up (has-child f c b up) (out_below f c b first h up one) (out_below f c b second h up two)))
      ∙ sym (keys-level f b h so)) b

  -- each child of a line is one
  record IsAside (c : ℕ) : Type 0 where
    there : has c f ≡ true
    one : is_within f c first ≡ false
    two : is_within f c second ≡ false

  of_first : (c : ℕ) → is_among c ones ≡ true → IsAside c
  of_first c among =
      let up : parent_of f c ≡ Some first = parent_here f first c h among in
      record { there = has-child f c first up; one = is_within-parent f c first h up; two = out_below f c first second h up first_off }

  of_second : (c : ℕ) → is_among c twos ≡ true → IsAside c
  of_second c among =
      let up : parent_of f c ≡ Some second = parent_here f second c h among in
      record { there = has-child f c second up; one = out_below f c second first h up second_off; two = is_within-parent f c second h up }

  of_both : (c : ℕ) → is_among c (ones ++ twos) ≡ true → IsAside c
  of_both c among = elim (cases_Bool (is_among c ones)) [
    | inl here ↦ of_first c here
    | inr out ↦ of_second c (grind (arith, among, out, is_among-append c ones twos))
  ]

  -- ---- what is read

  pub read_joined : read_in g first ≡ read_in f first ++ read_in f second
  read_joined =
      let all : reads_in g (children_of g first) ≡ reads_in f ones ++ reads_in f twos =
      ap (reads_in g) l.joined
      ∙ reads-same f g (ones ++ twos) (λ c among. let a = of_both c among in read_aside c a.one a.two)
      ∙ reads-append f ones twos in
      let last : read_in f second ≡ reads_in f twos = read-level f second h ∙ ap (λ t. t ++ reads_in f twos) l.silent in
      read-level g first j ∙ ap₂ (λ a b. a ++ b) (says first) all ∙ sym (append_assoc (said f first) (reads_in f ones) (reads_in f twos))
      ∙ ap₂ (λ a b. a ++ b) (sym (read-level f first h)) (sym last)

  -- ---- where points are

  all_keys : spread (keys_within g) (children_of g first) ≡ spread (keys_within f) (ones ++ twos)
  all_keys =
      ap (spread (keys_within g)) l.joined
      ∙ spread-same (keys_within g) (keys_within f) (ones ++ twos) (λ c among. let a = of_both c among in keys_aside c a.there a.one a.two)

  along_same : (p : Point) (ks : List ℕ) → place_on g p p.kind ≡ place_on f p p.kind → place_along g p ks ≡ place_along f p ks
  along_same p [] on = refl
  along_same p (k ∷ ks) on =
      ap₂ (λ a b. cond (eqb p.key k) a b) on (ap₂ (λ s n. text_length s + n) (says k) (along_same p ks on))

  -- a point on a node that neither line is in
  on_aside : (p : Point) → is_within f p.key first ≡ false → is_within f p.key second ≡ false → place_on g p p.kind ≡ place_on f p p.kind
  on_aside p one two = by_kind p.kind where
    by_kind : (c : PointKind) → place_on g p c ≡ place_on f p c
    by_kind point.Text = refl
    by_kind point.Element =
        let cs : List ℕ = children_of f p.key in
        let reads : reads_in g (take p.offset (children_of g p.key)) ≡ reads_in f (take p.offset cs) =
        ap (λ ks. reads_in g (take p.offset ks)) (children_aside p.key one two)
        ∙ reads-same f g (take p.offset cs) (λ c among.
        let up : parent_of f c ≡ Some p.key = parent_here f p.key c h (among_take p.offset cs c among) in
        read_aside c (out_below f c p.key first h up one) (out_below f c p.key second h up two)) in
        ap₂ (λ a b. text_length (a ++ b)) (says p.key) reads

  -- a point strictly below a line, by the child of the line that it is in
  record IsIn (p : Point) (cs : List ℕ) : Type 0 where
    child : ℕ
    at : is_among child cs ≡ true
    inside : is_within f child p.key ≡ true

  below_line : (k : ℕ) (p : Point) → is_within f k p.key ≡ true → p.key ≢ k → IsIn p (children_of f k)
  below_line k p inside other =
      let c = is_within-child f k p.key h inside other in
      record { child = c.child; at = grind (arith, is_among-children_of f c.child k h, c.up, eqb_tells k k); inside = c.inside }

  is_below : (p : Point) → IsIn p (ones ++ twos) → is_within g first p.key ≡ true
  is_below p i =
      let among : is_among p.key (spread (keys_within f) (ones ++ twos)) ≡ true = among_trees f (ones ++ twos) i.child p.key i.at i.inside in
      sym (among-within g first p.key)
      ∙ ap (is_among p.key) (keys-level g first j (still first there_first) ∙ ap (λ ks. first ∷ ks) all_keys)
      ∙ grind (arith, among)

  -- what is strictly below a line holds neither
  low_aside : (k : ℕ) (p : Point) → is_within f k p.key ≡ true → p.key ≢ k → (m : ℕ) → is_within f k m ≡ false → is_within f p.key m ≡ false
  low_aside k p inside other m out = elim (cases_Bool (is_within f p.key m)) [
    | inl reached ↦ absurd (let bad : false ≡ true = sym out ∙ is_within-trans f k p.key m h inside reached in cc)
    | inr far ↦ far
  ]

  -- where it is in the line
  pub record IsPlacedIn (p : Point) (n : ℕ) : Type 0 where
    pub inside : is_within g first p.key ≡ true
    pub place : place_in g first p ≡ n

  pub from_second : (p : Point) → is_within f second p.key ≡ true → p.key ≢ second
      → IsPlacedIn p (text_length (read_in f first) + place_in f second p)
  from_second p inside other =
      let i = below_line second p inside other in
      let in_both : IsIn p (ones ++ twos) =
      record { child = i.child; at = is_among-append i.child ones twos ∙ or_last (is_among i.child ones) (is_among i.child twos) i.at; inside = i.inside } in
      let none_both = is_within-apart f first second p.key h second_off first_off in
      let off_first : is_within f first p.key ≡ false = grind (arith, none_both, inside) in
      let not_first : p.key ≢ first = λ e. absurd (grind (arith, e, off_first, own_first)) in
      let on = on_aside p (low_aside second p inside other first second_off) (above_not_below f second p.key h inside (λ e. other (sym e))) in
      let level = place-level g p first j (still first there_first) not_first in
      let moved : place_along g p (spread (keys_within g) (children_of g first)) ≡ place_along f p (spread (keys_within f) (ones ++ twos)) =
      ap (place_along g p) all_keys ∙ along_same p (spread (keys_within f) (ones ++ twos)) on in
      let passed = past f p ones twos (λ c among. out_below f c first p.key h (parent_here f first c h among) off_first) in
      let old = place-level f p second h l.there_second other in
      let none : text_length (said f second) ≡ 0 = ap text_length l.silent ∙ length-none in
      let read : text_length (read_in f first) ≡ text_length (said f first) + text_length (reads_in f ones) =
      ap text_length (read-level f first h) ∙ places.length-append (said f first) (reads_in f ones) in
      record {
        inside = is_below p in_both;
        place = omega (arith, level, moved, passed, old, none, read, ap text_length (says first));
      } where
        or_last : (a b : Bool) → b ≡ true → (a || b) ≡ true
        or_last true b e = refl
        or_last false b e = e

  low_first : (p : Point) → is_within f first p.key ≡ true → p.key ≢ first → IsPlacedIn p (place_in f first p)
  low_first p inside other =
      let i = below_line first p inside other in
      let in_both : IsIn p (ones ++ twos) =
      record { child = i.child; at = is_among-append i.child ones twos ∙ or_first (is_among i.child ones) (is_among i.child twos) i.at; inside = i.inside } in
      let on = on_aside p (above_not_below f first p.key h inside (λ e. other (sym e))) (low_aside first p inside other second first_off) in
      let level = place-level g p first j (still first there_first) other in
      let moved : place_along g p (spread (keys_within g) (children_of g first)) ≡ place_along f p (spread (keys_within f) (ones ++ twos)) =
      ap (place_along g p) all_keys ∙ along_same p (spread (keys_within f) (ones ++ twos)) on in
      let keys : List ℕ = spread (keys_within f) ones in
      let more : List ℕ = spread (keys_within f) twos in
      let there : is_among p.key keys ≡ true = among_trees f ones i.child p.key i.at i.inside in
      let front : place_along f p (spread (keys_within f) (ones ++ twos)) ≡ place_along f p keys =
      ap (place_along f p) (spread-append (keys_within f) ones twos) ∙ place-append f p keys more
      ∙ ap (λ t. cond t (place_along f p keys) (text_length (said_by f keys) + place_along f p more)) there in
      let old = place-level f p first h there_first other in
      record {
        inside = is_below p in_both;
        place = omega (arith, level, moved, front, old, ap text_length (says first));
      } where
        or_first : (a b : Bool) → a ≡ true → (a || b) ≡ true
        or_first true b e = refl
        or_first false b e = absurd (cc)

  front_reads : (n : ℕ) → n ≤ length ones → reads_in g (take n (children_of g first)) ≡ reads_in f (take n ones)
  front_reads n few =
      ap (λ ks. reads_in g (take n ks)) l.joined ∙ ap (reads_in g) (take_front n ones twos few)
      ∙ reads-same f g (take n ones) (λ c among. let a = of_first c (among_take n ones c among) in read_aside c a.one a.two)

  on_first : (p : Point) → p.key ≡ first → (p.kind ≡ point.Element → p.offset ≤ length ones) → place_in g first p ≡ place_in f first p
  on_first p own few = by_kind p.kind refl where
    by_kind : (c : PointKind) → p.kind ≡ c → place_in g first p ≡ place_in f first p
    by_kind point.Text is =
        let same : p ≡ text_point first p.offset =
        ap₂ (λ k c. let q : Point = record { key = k; offset = p.offset; kind = c } in q) own is in
        ap (place_in g first) same ∙ at_itself g first p.offset j (still first there_first)
        ∙ sym (ap (place_in f first) same ∙ at_itself f first p.offset h there_first)
    by_kind point.Element is =
        let same : p ≡ element_point first p.offset =
        ap₂ (λ k c. let q : Point = record { key = k; offset = p.offset; kind = c } in q) own is in
        ap (place_in g first) same ∙ at_element g first p.offset j (still first there_first)
        ∙ ap₂ (λ a b. text_length (a ++ b)) (says first) (front_reads p.offset (few is))
        ∙ sym (ap (place_in f first) same ∙ at_element f first p.offset h there_first)

  -- a point of the first line stays where it was
  pub from_first : (p : Point) → is_within f first p.key ≡ true → (p.key ≡ first → p.kind ≡ point.Element → p.offset ≤ length ones)
      → IsPlacedIn p (place_in f first p)
  from_first p inside few = elim (eqb_tells p.key first) [
    | inl own ↦ record {
      inside = ap (is_within g first) own.1 ∙ is_within-self g first ∙ still first there_first;
      place = on_first p own.1 (few own.1);
    }
    | inr other ↦ low_first p inside other.1
  ]

  -- the place after the children that the first line had
  pub at_end : IsPlacedIn (element_point first (size_of f first)) (text_length (read_in f first))
  at_end = record {
    inside = is_within-self g first ∙ still first there_first;
    place = at_element g first (size_of f first) j (still first there_first)
        ∙ ap₂ (λ a b. text_length (a ++ b)) (says first) (front_reads (length ones) (omega arith) ∙ ap (reads_in f) (take_all ones))
        ∙ ap text_length (sym (read-level f first h));
  }

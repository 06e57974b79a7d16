-- Where the end of a new node is in what is read around it.
use Rattle.lx_blocks.specs.Blocks.{is_at}
use Rattle.lx_blocks.specs.Ranges.{lies}
use Rattle.lx_caret_laws.proofs.BrokenParts.{among_take, read_more}
use Rattle.lx_caret_laws.proofs.EditedIn.{place_leaf}
use Rattle.lx_caret_laws.proofs.InPlace.{OnlyAt, apart_children, below_parent, keys-level, place-behind, place-here, place-level, read_elsewhere}
use Rattle.lx_caret_laws.proofs.Opened.{IsOpened}
use Rattle.lx_caret_laws.proofs.Placed.{IsBeside, IsPlaced, label_new}
use Rattle.lx_caret_laws.proofs.PlacesAfter.{IsFurther, further_above}
use Rattle.lx_caret_laws.proofs.ReadLevels.{reads-same}
use Rattle.lx_caret_laws.proofs.TypedNew.{among_placed, apart, has_label, label_still, leaf, no_element, only_at, only_here, order, piece_read, said_label, there, up}
use Rattle.lx_caret_laws.specs.Carets.{IsSound}
use Rattle.lx_caret_laws.specs.Reading.{place_along, place_in, read_in, reads_in, said}
use Rattle.lx_draft.proofs.Gaps.{parent_here}
use Rattle.lx_draft.specs.Selecting.{text_of}
use Rattle.lx_draft.specs.Working.{Working}
use Rattle.lx_edit.specs.Edits.{element_point, text_point}
use Rattle.lx_edit_laws.proofs.Reading.{spread}
use Rattle.lx_edit_laws.specs.Reading.{in_place_of}
use Rattle.lx_forest.proofs.Lookups.{NoRepeats-children_of, has-child, has-parent_of, is_among-children_of}
use Rattle.lx_forest.proofs.Within.{is_within-parent, is_within-self, is_within-up}
use Rattle.lx_forest.specs.Forest.{Forest}
use Rattle.lx_forest.specs.Lookups.{IsForest, children_of, has, is_within, keys_within, parent_of, size_of}
use Rattle.lx_node.specs.Kinds.{is_element}
use Rattle.lx_node.specs.declared.cause.Point.{Point}
use Rattle.lx_node.specs.declared.fields.Fields.{Fields}
use Rattle.lx_node.specs.declared.kind.Kind.{Kind}
use Rattle.lx_text.proofs.Places.{length-append, length-none}
use Rattle.lx_text.specs.Texts.{text_length}
use Rattle.lx_trees.proofs.Positions.{names_with-insert}
use Rattle.lx_trees.proofs.Siblings.{is_among-append, is_among-names_with}
use Rattle.lx_trees.specs.Siblings.{index_in, is_among}
use Rattle.std.proofs.Common.{List, Some, [], add-one, ap, arith, cond, eqb, false, inl, inr, length, refl, suc, sym, true, zero, ℕ, ◌++◌, ◌+◌, ◌∙◌, ◌∷◌, ◌≡◌, ◌≢◌, ◌≤◌, ◌⊎◌}
use Rattle.std.proofs.lemmas.Bool.Decides.{eqb_tells}
use Rattle.std.proofs.lemmas.Bool.{cases_Bool}
use Rattle.std.specs.Prelude.{insert, slice_get, take}

-- ---- along the children of a node

-- those that stay, around one that gave way to others
module _ (f g : Forest) (p q : Point) (more : ℕ) where
  pub replaced : (c : ℕ) (ks xs : List ℕ) → is_among c xs ≡ true
      → ((x : ℕ) → is_among x xs ≡ true → x ≢ c → (read_in g x ≡ read_in f x) × ((is_within f x p.key ≡ false) × (is_within g x q.key ≡ false)))
      → is_within f c p.key ≡ true
      → ((tail : List ℕ) → place_along g q (spread (keys_within g) (ks ++ tail)) ≡ place_in f c p + more)
      → place_along g q (spread (keys_within g) (in_place_of c ks xs)) ≡ place_along f p (spread (keys_within f) xs) + more
  replaced c ks [] there each holds here = absurd (cc)
  replaced c ks (x ∷ xs) there each holds here = elim (eqb_tells x c) [
    | inl own ↦
        let one : is_within f x p.key ≡ true = ap (λ y. is_within f y p.key) own.1 ∙ holds in
        ap (λ t. place_along g q (spread (keys_within g) (cond t (ks ++ xs) (x ∷ in_place_of c ks xs)))) own.0 ∙ here xs
        ∙ ap (λ n. n + more) (sym (place-here f p x (spread (keys_within f) xs) one ∙ ap (λ y. place_in f y p) own.1))
    | inr other ↦
        let told = each x (grind (arith, eqb_tells x x)) other.1 in
        let inner = replaced c ks xs (grind (arith, there, other.0)) (λ y among ne. each y (grind (arith, among)) ne) holds here in
        let old = place-behind f p x (spread (keys_within f) xs) told.1.0 in
        let now = place-behind g q x (spread (keys_within g) (in_place_of c ks xs)) told.1.1 in
        ap (λ t. place_along g q (spread (keys_within g) (cond t (ks ++ xs) (x ∷ in_place_of c ks xs)))) other.0
        ∙ omega (arith, inner, old, now, ap text_length told.0)
  ]

-- to a child
module _ (g : Forest) (q : Point) (n : ℕ) (on : q.key ≡ n) (own : is_within g n n ≡ true) where
  here_on : (rest : List ℕ) → place_along g q (keys_within g n ++ rest) ≡ place_in g n q
  here_on rest = place-here g q n rest (ap (is_within g n) on ∙ own)

  pub to_child : (ys : List ℕ) (i : ℕ) → index_in ys n ≡ Some i → ((x : ℕ) → is_among x ys ≡ true → x ≢ n → is_within g x n ≡ false)
      → place_along g q (spread (keys_within g) ys) ≡ text_length (reads_in g (take i ys)) + place_in g n q
  to_child [] i at out = absurd (cc)
  to_child (y ∷ ys) i at out = elim (eqb_tells y n) [
    | inl same ↦
        let start : i ≡ 0 = grind (arith, at, same.0) in
        ap (λ z. place_along g q (keys_within g z ++ spread (keys_within g) ys)) same.1 ∙ here_on (spread (keys_within g) ys)
        ∙ omega (arith, ap (λ j. text_length (reads_in g (take j (y ∷ ys)))) start, length-none)
    | inr other ↦ by_index i at other.0 (out y (grind (arith, eqb_tells y y)) other.1)
        (λ j before. to_child ys j before (λ x among ne. out x (grind (arith, among)) ne))
  ] where
    by_index : (i : ℕ) → index_in (y ∷ ys) n ≡ Some i → eqb y n ≡ false → is_within g y n ≡ false
        → ((j : ℕ) → index_in ys n ≡ Some j
        → place_along g q (spread (keys_within g) ys) ≡ text_length (reads_in g (take j ys)) + place_in g n q)
        → place_along g q (spread (keys_within g) (y ∷ ys)) ≡ text_length (reads_in g (take i (y ∷ ys))) + place_in g n q
    by_index zero at other far again = absurd (grind (arith, at, other))
    by_index (suc i) at other far again =
        let inner = again i (grind (arith, at, other)) in
        let now = place-behind g q y (spread (keys_within g) ys) (ap (is_within g y) on ∙ far) in
        omega (arith, inner, now, length-append (read_in g y) (reads_in g (take i ys)))

  pub to_insert : (cs : List ℕ) (i : ℕ) → i ≤ length cs → ((x : ℕ) → is_among x cs ≡ true → is_within g x n ≡ false)
      → place_along g q (spread (keys_within g) (insert cs i n)) ≡ text_length (reads_in g (take i cs)) + place_in g n q
  to_insert cs zero within out = here_on (spread (keys_within g) cs) ∙ omega (arith, length-none)
  to_insert [] (suc i) within out = absurd (omega (arith, within))
  to_insert (c ∷ cs) (suc i) within out =
      let inner = to_insert cs i (omega (arith, within)) (λ x among. out x (grind (arith, among))) in
      let now = place-behind g q c (spread (keys_within g) (insert cs i n)) (ap (is_within g c) on ∙ out c (grind (arith, eqb_tells c c))) in
      omega (arith, inner, now, length-append (read_in g c) (reads_in g (take i cs)))

-- a new child is in no other child's tree
pub sibling_out : (g : Forest) (x n b : ℕ) → IsForest g → parent_of g x ≡ Some b → parent_of g n ≡ Some b → x ≢ n → is_within g x n ≡ false
sibling_out g x n b h up_x up_n other =
    is_within-up g x n b h up_n (λ e. other (sym e)) ∙ is_within-parent g x b h up_x

-- the place after a leaf in its parent is where the leaf's own end is
pub after_leaf : (g : Forest) (n b i len : ℕ) → IsForest g → parent_of g n ≡ Some b → index_in (children_of g b) n ≡ Some i
    → children_of g n ≡ [] → text_length (read_in g n) ≡ len
    → place_in g b (element_point b (i + 1)) ≡ place_in g b (text_point n len)
after_leaf g n b i len h above at bare long =
    let there : has n g ≡ true = has-child g n b above in
    let ys : List ℕ = children_of g b in
    let own : eqb b b ≡ true = grind (arith, eqb_tells b b) in
    let same_b : has b g ≡ true = has-parent_of g n b above in
    let apart : n ≢ b = λ e. absurd (grind (arith, ap (λ y. is_within g y b) e, is_within-parent g n b h above, is_within-self g b, same_b)) in
    let first : place_in g b (element_point b (i + 1)) ≡ text_length (said g b ++ reads_in g (take (i + 1) ys)) =
    ap (place_along g (element_point b (i + 1))) (keys-level g b h same_b)
    ∙ ap (λ t. cond t (text_length (said g b ++ reads_in g (take (i + 1) ys)))
    (text_length (said g b) + place_along g (element_point b (i + 1)) (spread (keys_within g) ys))) own in
    let more : reads_in g (take (i + 1) ys) ≡ reads_in g (take i ys) ++ read_in g n =
    ap (λ j. reads_in g (take j ys)) (add-one i) ∙ read_more g n i ys at in
    let second = place-level g (text_point n len) b h same_b apart in
    let along = to_child g (text_point n len) n refl (is_within-self g n ∙ there) ys i at
    (λ x among other. sibling_out g x n b h (parent_here g b x h among) above other) in
    let leaf = place_leaf g n len h there bare in
    omega (
      arith,
      first,
      ap (λ t. text_length (said g b ++ t)) more,
      length-append (said g b) (reads_in g (take i ys) ++ read_in g n),
      length-append (reads_in g (take i ys)) (read_in g n),
      second,
      along,
      leaf,
      long,
    )

-- ---- beside a text or tab

module _ (typed : List ℕ) (k at : ℕ) (kind : Kind) (x : Fields) (w s v : Working) (rest ks : List ℕ) (sound : IsSound w)
    (place : lies w.forest (text_point k at) ≡ true)
    (text : text_of (Some x) ≡ typed) (o : IsOpened k at rest w s)
    (b : IsBeside s.forest v.forest k s.next_key ks (label_new s kind x)) where
  abbrev f : Forest
  f = w.forest

  abbrev g : Forest
  g = v.forest

  abbrev n : ℕ
  n = s.next_key

  abbrev pr : ℕ
  pr = b.parent

  abbrev p : Point
  p = text_point k at

  abbrev q : Point
  q = text_point n (text_length typed)

  h : IsForest f
  h = sound.ready.in_order

  k_there : has k f ≡ true
  k_there = there typed k at kind x w s v rest ks sound place text o b

  up_k : parent_of f k ≡ Some pr
  up_k = up typed k at kind x w s v rest ks sound place text o b

  k_leaf : children_of f k ≡ []
  k_leaf = leaf typed k at kind x w s v rest ks sound place text o b

  only : OnlyAt f g pr k
  only = only_at typed k at kind x w s v rest ks sound place text o b

  now : children_of g pr ≡ in_place_of k (ks ++ rest) (children_of f pr)
  now = order typed k at kind x w s v rest ks sound place text o b

  pub fresh : has n f ≡ false
  fresh = elim (cases_Bool (has n f)) [
    | inl so ↦
        let still : has n s.forest ≡ true = elim (eqb_tells n k) [
          | inl same ↦ ap (λ m. has m s.forest) same.1 ∙ has-child s.forest k pr b.up
          | inr other ↦ has_label f s.forest n so (o.stay.labels n so other.1)
        ] in
        absurd (grind (arith, o.stay.ready.free n (omega arith), still))
    | inr out ↦ out
  ]

  among_k : is_among k (children_of f pr) ≡ true
  among_k = grind (arith, is_among-children_of f k pr h, up_k, eqb_tells pr pr)

  pub up_new : is_among n (ks ++ rest) ≡ true → parent_of g n ≡ Some pr
  up_new among = parent_here g pr n b.ordered (ap (is_among n) now ∙ among_placed k n (ks ++ rest) (children_of f pr) among_k among)

  kept_among : (c y : ℕ) (ys zs : List ℕ) → y ≢ c → is_among y zs ≡ true → is_among y (in_place_of c ys zs) ≡ true
  kept_among c y ys [] other among = absurd (cc)
  kept_among c y ys (z ∷ zs) other among = elim (eqb_tells z c) [
    | inl own ↦ rw own.0 (is_among-append y ys zs ∙ grind (arith, among, own, other, eqb_tells z y))
    | inr far ↦ rw far.0 (grind (arith, among, kept_among c y ys zs other, eqb_tells z y))
  ]

  off : n ≢ pr
  off e = absurd (grind (arith, e, fresh, has-parent_of f k pr up_k))

  pub beside_further : is_among n (ks ++ rest) ≡ true
      → ((tail : List ℕ) → parent_of g n ≡ Some pr → place_along g q (spread (keys_within g) ((ks ++ rest) ++ tail)) ≡ at + text_length typed)
      → IsFurther (text_length typed) p q f g pr
  beside_further among ends =
      let up_n = up_new among in
      let own : is_within f k k ≡ true = is_within-self f k ∙ k_there in
      let apart_k : k ≢ pr = apart typed k at kind x w s v rest ks sound place text o b in
      let pr_there : has pr f ≡ true = has-parent_of f k pr up_k in
      let here = place_leaf f k at h k_there k_leaf in
      let each : (y : ℕ) → is_among y (children_of f pr) ≡ true → y ≢ k
      → (read_in g y ≡ read_in f y) × ((is_within f y k ≡ false) × (is_within g y n ≡ false)) =
      λ y at_y other.
      let up_y = parent_here f pr y h at_y in
      let far = apart_children f y k pr k h up_y up_k other own in
      let up_g = parent_here g pr y b.ordered (ap (is_among y) now ∙ kept_among k y (ks ++ rest) (children_of f pr) other at_y) in
      let new : y ≢ n = λ e. absurd (grind (arith, e, fresh, has-child f y pr up_y)) in
      (read_elsewhere f g pr k only y (has-child f y pr up_y) far, (far, sibling_out g y n pr b.ordered up_g up_n new)) in
      let along = replaced f g p q (text_length typed) k (ks ++ rest) (children_of f pr) among_k each own
      (λ tail. ends tail up_n ∙ ap (λ m. m + text_length typed) (sym here)) in
      let one = place-level f p pr h pr_there apart_k in
      let two = place-level g q pr b.ordered (has-parent_of g n pr up_n) off in
      let list : place_along g q (spread (keys_within g) (children_of g pr)) ≡ place_along g q
      (spread (keys_within g) (in_place_of k (ks ++ rest) (children_of f pr))) =
      ap (λ xs. place_along g q (spread (keys_within g) xs)) now in
      let says : said g pr ≡ said f pr =
      said_label f g pr (label_still typed k at kind x w s v rest ks sound place text o b pr pr_there (λ e. apart_k (sym e))) in
      record { within = below_parent g n pr b.ordered up_n; place = omega (arith, along, one, two, list, ap text_length says) }

  -- the new node before the text
  pub ahead_further : at ≡ 0 → ks ≡ n ∷ k ∷ [] → IsFurther (text_length typed) p q f g pr
  ahead_further start is =
      let among : is_among n (ks ++ rest) ≡ true = ap (λ qs. is_among n (qs ++ rest)) is ∙ grind (arith, eqb_tells n n) in
      beside_further among (λ tail up_n.
      let there_n : has n g ≡ true = has-child g n pr up_n in
      ap (λ qs. place_along g q (spread (keys_within g) ((qs ++ rest) ++ tail))) is
      ∙ place-here g q n (spread (keys_within g) ((k ∷ rest) ++ tail)) (is_within-self g n ∙ there_n)
      ∙ place_leaf g n (text_length typed) b.ordered there_n b.bare ∙ omega (arith, start))

  -- or after it, or after its first part
  pub behind_further : at ≢ 0 → ks ≡ k ∷ n ∷ [] → IsFurther (text_length typed) p q f g pr
  behind_further some is =
      let among : is_among n (ks ++ rest) ≡ true = ap (λ qs. is_among n (qs ++ rest)) is ∙ grind (arith, eqb_tells n n) in
      let among_first : is_among k (ks ++ rest) ≡ true = ap (λ qs. is_among k (qs ++ rest)) is ∙ grind (arith, eqb_tells k k) in
      let up_first : parent_of g k ≡ Some pr =
      parent_here g pr k b.ordered (ap (is_among k) now ∙ among_placed k k (ks ++ rest) (children_of f pr) among_k among_first) in
      let other : k ≢ n = λ e. absurd (grind (arith, e, fresh, k_there)) in
      let said_k : text_length (read_in g k) ≡ at =
      ap text_length (piece_read typed k at kind x w s v rest ks sound place text o b k (grind (arith, eqb_tells k k))) ∙ o.length some in
      beside_further among (λ tail up_n.
      let there_n : has n g ≡ true = has-child g n pr up_n in
      ap (λ qs. place_along g q (spread (keys_within g) ((qs ++ rest) ++ tail))) is
      ∙ place-behind g q k (spread (keys_within g) ((n ∷ rest) ++ tail)) (sibling_out g k n pr b.ordered up_first up_n other)
      ∙ ap (λ m. text_length (read_in g k) + m)
      (place-here g q n (spread (keys_within g) (rest ++ tail)) (is_within-self g n ∙ there_n)
      ∙ place_leaf g n (text_length typed) b.ordered there_n b.bare)
      ∙ omega (arith, said_k))

  -- so it is in each element around
  pub around_further : (z : Point) → (z.key ≡ n) ⊎ (z.key ≡ pr) → IsFurther (text_length typed) p z f g pr → (c : ℕ)
      → is_at is_element f c ≡ true → is_within f c k ≡ true → IsFurther (text_length typed) p z f g c
  around_further z on further c element over =
      let no = no_element typed k at kind x w s v rest ks sound place text o b in
      let other : k ≢ c = λ e. let bad : false ≡ true = sym (ap (is_at is_element f) (sym e) ∙ no) ∙ element in absurd (cc) in
      further_above f g pr k only p z (text_length typed) refl (λ d so ne e. elim on [
        | inl new ↦ absurd (grind (arith, so, fresh, sym new ∙ e))
        | inr base ↦ absurd (ne (sym e ∙ base))
      ]) further c (sym (is_within-up f c k pr h up_k other) ∙ over)

-- ---- in an element

module _ (typed : List ℕ) (k i : ℕ) (kind : Kind) (x : Fields) (w v : Working) (sound : IsSound w) (text : text_of (Some x) ≡ typed)
    (there : has k w.forest ≡ true)
    (within : i ≤ size_of w.forest k)
    (b : IsPlaced w.forest v.forest k w.next_key (slice_get (children_of w.forest k) i) (label_new w kind x)) where
  free : has w.next_key w.forest ≡ false
  free = sound.ready.free w.next_key (omega arith)

  pub up_inside : parent_of v.forest w.next_key ≡ Some k
  up_inside =
      parent_here v.forest k w.next_key b.ordered (ap (is_among w.next_key) b.order
      ∙ is_among-names_with (slice_get (children_of w.forest k) i) (w.next_key ∷ []) (children_of w.forest k) w.next_key
      ∙ grind (arith, eqb_tells w.next_key w.next_key))

  pub inside_further : IsFurther (text_length typed) (element_point k i) (text_point w.next_key (text_length typed)) w.forest v.forest k
  inside_further =
      let f : Forest = w.forest in
      let g : Forest = v.forest in
      let h : IsForest f = sound.ready.in_order in
      let n : ℕ = w.next_key in
      let p : Point = element_point k i in
      let q : Point = text_point n (text_length typed) in
      let cs : List ℕ = children_of f k in
      let only = only_here typed k i kind x w v sound text there within b in
      let own : eqb k k ≡ true = grind (arith, eqb_tells k k) in
      let front : List ℕ = said f k ++ reads_in f (take i cs) in
      let here : place_in f k p ≡ text_length front =
      ap (place_along f p) (keys-level f k h there) ∙ ap (λ t. cond t (text_length front)
      (text_length (said f k) + place_along f p (spread (keys_within f) cs))) own in
      let order : children_of g k ≡ insert cs i n = b.order ∙ names_with-insert cs n i (NoRepeats-children_of f k h) within in
      let there_n : has n g ≡ true = has-child g n k up_inside in
      let same : (y : ℕ) → is_among y cs ≡ true → read_in g y ≡ read_in f y =
      λ y among. let up = parent_here f k y h among in read_elsewhere f g k k only y (has-child f y k up) (is_within-parent f y k h up) in
      let out : (y : ℕ) → is_among y cs ≡ true → is_within g y n ≡ false =
      λ y among.
      let up = parent_here f k y h among in
      let among_g : is_among y (children_of g k) ≡ true = ap (is_among y) b.order ∙ is_among-names_with (slice_get cs i) (n ∷ []) cs y
      ∙ grind (arith, among) in
      sibling_out g y n k b.ordered (parent_here g k y b.ordered among_g) up_inside (λ e. absurd (grind (arith, e, free, has-child f y k up))) in
      let off : n ≢ k = λ e. absurd (grind (arith, e, free, there)) in
      let level = place-level g q k b.ordered (has-parent_of g n k up_inside) off in
      let list = ap (λ xs. place_along g q (spread (keys_within g) xs)) order in
      let along = to_insert g q n refl (is_within-self g n ∙ there_n) cs i within out in
      let reads = ap text_length (reads-same f g (take i cs) (λ y among. same y (among_take i cs y among))) in
      let leaf_n = place_leaf g n (text_length typed) b.ordered there_n b.bare in
      let says = ap text_length (said_label f g k (b.labels k there)) in
      record {
        within = below_parent g n k b.ordered up_inside;
        place = omega (arith, here, length-append (said f k) (reads_in f (take i cs)), level, list, along, reads, leaf_n, says);
      }

  pub inside_around : (z : Point) → (z.key ≡ w.next_key) ⊎ (z.key ≡ k) → IsFurther (text_length typed) (element_point k i) z w.forest v.forest k
      → (c : ℕ) → is_within w.forest c k ≡ true → IsFurther (text_length typed) (element_point k i) z w.forest v.forest c
  inside_around z on further c over =
      further_above w.forest v.forest k k (only_here typed k i kind x w v sound text there within b) (element_point k i) z (text_length typed) refl
      (λ d so ne e. elim on [
        | inl new ↦ absurd (grind (arith, so, free, sym new ∙ e))
        | inr base ↦ absurd (ne (sym e ∙ base))
      ]) further c over

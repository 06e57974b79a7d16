-- A place beside a node, and its index.
use Rattle.std.proofs.Common.{◌≡◌, ◌∙◌, ◌+◌, ◌≤◌, ◌<◌, ℕ, suc, true, List, length, Option, None, Some, Err, refl, sym, ap, arith, inl, inr}
use Rattle.std.specs.Prelude.{slice_get, unwrap_or}
use Rattle.std.proofs.lemmas.Option.{slice_get_past, slice_get_cases}
use Rattle.std.proofs.lemmas.Bool.Decides.{eqb_tells}
use Rattle.lx_trees.specs.Siblings.{is_among, NoRepeats, next_in, index_in, is_place}
use Rattle.lx_node.specs.declared.cause.Cause.TheVariants.{BadPlace}
use Rattle.lx_trees.proofs.Siblings.{is_named_tells, next_in-among}
use Rattle.lx_trees.proofs.Positions.{place_in, index_in-among, slice_get-place_in, index_in-lt, index_in-slice_get, next_in-slice_get}
use Rattle.lx_forest.specs.Forest.{Forest}
use Rattle.lx_forest.specs.Lookups.{parent_of, children_of, children_below, next_of, index_of, size_of, IsForest}
use Rattle.lx_forest.proofs.Lookups.{NoRepeats-children_of, is_among-children_of}
use Rattle.lx_forest.proofs.Walks.{cases_option}
use Rattle.lx_draft.specs.Working.{Working}
use Rattle.lx_draft.specs.Faults.{put_fault, beyond}
use Rattle.lx_draft.proofs.Put.{put_within}
use Rattle.lx_draft.specs.Steps.{put_step}
use Rattle.lx_draft.specs.Beside.{gap_index, before_at, put_before_step, behind_at, put_behind_step}

-- ---- in a list of names

-- the index of a gap is where what comes after it is
pub gap_at : (before : Option ℕ) (xs : List ℕ) → is_place before xs ≡ true → before ≡ slice_get xs (gap_index before xs)
gap_at None xs e = sym (slice_get_past xs (length xs) (omega arith))
gap_at (Some b) xs e = sym (slice_get-place_in xs b e)

pub gap_within : (before : Option ℕ) (xs : List ℕ) → is_place before xs ≡ true → gap_index before xs ≤ length xs
gap_within None xs e = omega arith
gap_within (Some b) xs e = let h : place_in xs b < length xs = index_in-lt xs b (place_in xs b) (index_in-among xs b e) in omega (arith, h)

-- and what is at an index shows the gap there
gap_of : (xs : List ℕ) (i : ℕ) → NoRepeats xs → i ≤ length xs → gap_index (slice_get xs i) xs ≡ i
gap_of xs i once within =
    elim (slice_get_cases xs i).1 [
      | inl there ↦ ap (λ o. gap_index o xs) there.2 ∙ ap (λ o. unwrap_or o 0) (index_in-slice_get xs there.0 i once there.2)
      | inr past ↦ ap (λ o. gap_index o xs) past.1 ∙ same (length xs) past.0 within
    ] where
      same : (n : ℕ) → n ≤ i → i ≤ n → n ≡ i
      same n h l = omega (arith, h, l)

-- the next name is a place, whose index is one more
pub next_place : (xs : List ℕ) (k : ℕ) → is_place (next_in xs k) xs ≡ true
next_place xs k =
    elim (cases_option (next_in xs k)) [
      | inl none ↦ ap (λ o. is_place o xs) none
      | inr some ↦ ap (λ o. is_place o xs) some.1 ∙ next_in-among xs k some.0 some.1
    ]

last_index : (xs : List ℕ) (i : ℕ) → i < length xs → slice_get xs (suc i) ≡ None → length xs ≡ i + 1
last_index xs i h e =
    elim (slice_get_cases xs (suc i)).1 [
      | inl there ↦ absurd (let no : None ≡ Some there.0 = sym e ∙ there.2 in cc)
      | inr past ↦ omega (arith, h, past.0)
    ]

pub gap_behind : (xs : List ℕ) (k : ℕ) → NoRepeats xs → is_among k xs ≡ true → gap_index (next_in xs k) xs ≡ place_in xs k + 1
gap_behind xs k once among =
    let i : ℕ = place_in xs k in
    let here : slice_get xs i ≡ Some k = slice_get-place_in xs k among in
    let within : i < length xs = index_in-lt xs k i (index_in-among xs k among) in
    let next : next_in xs k ≡ slice_get xs (suc i) = next_in-slice_get xs k i once here in
    elim (cases_option (slice_get xs (suc i))) [
      | inl none ↦ ap (λ o. gap_index o xs) (next ∙ none) ∙ last_index xs i within none
      | inr some ↦ ap (λ o. gap_index o xs) (next ∙ some.1) ∙ ap (λ o. unwrap_or o 0) (index_in-slice_get xs some.0 (suc i) once some.1) ∙ one_more i
    ] where
      one_more : (n : ℕ) → suc n ≡ n + 1
      one_more n = omega arith

-- ---- in a forest

pub child_of : (f : Forest) (p other : ℕ) → IsForest f → parent_of f other ≡ Some p → is_among other (children_of f p) ≡ true
child_of f p other h up = grind (arith, up, is_among-children_of f other p h, eqb_tells p p)

pub parent_here : (f : Forest) (p b : ℕ) → IsForest f → is_among b (children_of f p) ≡ true → parent_of f b ≡ Some p
parent_here f p b h among =
    elim (is_named_tells (parent_of f b) p) [
      | inl named ↦ named.1
      | inr other ↦ absurd (grind (arith, among, other.0, is_among-children_of f b p h))
    ]

-- the index of a child is that among its siblings
pub gap_read : (f : Forest) (p b : ℕ) → IsForest f → is_among b (children_of f p) ≡ true → unwrap_or (index_of f b) 0 ≡ gap_index (Some b) (children_of f p)
gap_read f p b h among = ap (λ o. unwrap_or (index_in (children_below f o) b) 0) (parent_here f p b h among)

index_here : (f : Forest) (p other : ℕ) → IsForest f → parent_of f other ≡ Some p → index_of f other ≡ Some (place_in (children_of f p) other)
index_here f p other h up = ap (λ o. index_in (children_below f o) other) up ∙ index_in-among (children_of f p) other (child_of f p other h up)

next_here : (f : Forest) (p other : ℕ) → parent_of f other ≡ Some p → next_of f other ≡ next_in (children_of f p) other
next_here f p other up = ap (λ o. next_in (children_below f o) other) up

pub next_is_place : (f : Forest) (p other : ℕ) (next : Option ℕ) → next ≡ next_of f other → parent_of f other ≡ Some p → is_place next (children_of f p) ≡ true
next_is_place f p other next e up = ap (λ o. is_place o (children_of f p)) (e ∙ next_here f p other up) ∙ next_place (children_of f p) other

-- ---- refused

within_same : (f : Forest) (p i j : ℕ) → i ≤ size_of f p → j ≤ size_of f p → beyond f p i ≡ beyond f p j
within_same f p i j h k = grind (arith, h, k)

pub same_fault : (f : Forest) (k p i j : ℕ) → i ≤ size_of f p → j ≤ size_of f p → put_fault k p i f ≡ put_fault k p j f
same_fault f k p i j h l = rw (within_same f p i j h l) refl

pub gap_refused : (f : Forest) (k p : ℕ) (before : Option ℕ) → is_place before (children_of f p) ≡ true
    → put_fault k p 0 f ≡ put_fault k p (gap_index before (children_of f p)) f
gap_refused f k p before e = same_fault f k p 0 (gap_index before (children_of f p)) (omega arith) (gap_within before (children_of f p) e)

-- ---- put

-- where a put isn't refused, the index is that of the gap before the child which is there
pub gap_put : (f : Forest) (k p index : ℕ) → IsForest f → put_fault k p index f ≡ None → gap_index (slice_get (children_of f p) index) (children_of f p) ≡ index
gap_put f k p index h e = gap_of (children_of f p) index (NoRepeats-children_of f p h) (put_within f k p index e)

pub before_is : (w : Working) (k p other : ℕ) → IsForest w.forest → parent_of w.forest other ≡ Some p
    → put_step k p (gap_index (Some other) (children_of w.forest p)) w ≡ put_before_step k other w
unfolding put_before_step
before_is w k p other h up =
    sym (ap (λ o. before_at k other o (index_of w.forest other) w) up ∙ ap (λ o. before_at k other (Some p) o w) (index_here w.forest p other h up))

pub behind_is : (w : Working) (k p other : ℕ) (next : Option ℕ) → next ≡ next_of w.forest other → IsForest w.forest → parent_of w.forest other ≡ Some p
    → put_step k p (gap_index next (children_of w.forest p)) w ≡ put_behind_step k other w
unfolding put_behind_step
behind_is w k p other next e h up =
    ap (λ i. put_step k p i w)
    (ap (λ o. gap_index o (children_of w.forest p)) (e ∙ next_here w.forest p other up)
    ∙ gap_behind (children_of w.forest p) other (NoRepeats-children_of w.forest p h) (child_of w.forest p other h up))
    ∙ sym (ap (λ o. behind_at k other o (index_of w.forest other) w) up ∙ ap (λ o. behind_at k other (Some p) o w) (index_here w.forest p other h up))

-- a node that is below nothing has no place beside it
pub before_none : (w : Working) (k other : ℕ) → parent_of w.forest other ≡ None → put_before_step k other w ≡ Err (BadPlace other)
unfolding put_before_step
before_none w k other top = ap (λ o. before_at k other o (index_of w.forest other) w) top

pub behind_none : (w : Working) (k other : ℕ) → parent_of w.forest other ≡ None → put_behind_step k other w ≡ Err (BadPlace other)
unfolding put_behind_step
behind_none w k other top = ap (λ o. behind_at k other o (index_of w.forest other) w) top

-- Two lists of children that agree around a run: the later one has the same front and the same back, and where its own run
-- begins and ends.
use Rattle.std.proofs.Common.{◌≡◌, ◌∙◌, ◌||◌, ℕ, true, false, List, [], ◌∷◌, ◌++◌, Option, None, Some, refl, sym, ap, subst, arith, append-nil, append_assoc, inl, inr}
use Rattle.std.proofs.lemmas.Bool.Decides.{eqb_tells}
use Rattle.lx_trees.specs.Siblings.{is_among, NoRepeats, first_of, last_from, last_of, next_in, previous_from, previous_in, from_name, up_to_name}
use Rattle.lx_trees.proofs.Siblings.{is_among-append, is_named_tells, is_none-previous_in}
use Rattle.lx_trees.proofs.Positions.{from_name-first, from_name-step}
use Rattle.lx_reconcile.specs.Windows.{up_to_end, between_names}
use Rattle.lx_reconcile.proofs.Lists.{NoRepeats-right, apart, last_of-among}

-- ---- the front, and the back

-- what begins as the front does, and goes on so, has it as its front
record BeginsWith (front rest xs : List ℕ) : Type 0 where
  behind : List ℕ
  list : xs ≡ front ++ behind
  first : first_of behind ≡ first_of rest

begins : (front rest xs : List ℕ) → NoRepeats xs → NoRepeats (front ++ rest) → first_of xs ≡ first_of (front ++ rest) →
    ((k : ℕ) → is_among k front ≡ true → next_in xs k ≡ next_in (front ++ rest) k) → BeginsWith front rest xs
begins [] rest xs once front_once e same = record { behind = xs; list = refl; first = e }
begins (f ∷ front) rest [] once front_once e same = absurd (grind arith)
begins (f ∷ front) rest (x ∷ xs) once front_once e same =
    let own : x ≡ f = grind (arith, e) in
    let after : BeginsWith front rest xs =
    begins front rest xs once.1 front_once.1 (grind (arith, same f, own, eqb_tells f f, eqb_tells x f))
    (λ k among. grind (arith, among, same k, own, front_once.0, eqb_tells f k, eqb_tells x k, is_among-append f front rest)) in
    record { behind = after.behind; list = cc; first = after.first }

-- what goes on from the first of the back as the back does ends with it
ends : (back xs : List ℕ) → NoRepeats xs → NoRepeats back → ((k : ℕ) → is_among k back ≡ true → is_among k xs ≡ true) →
    ((k : ℕ) → is_among k back ≡ true → next_in xs k ≡ next_in back k) → from_name (first_of back) xs ≡ back
ends [] xs once back_once there same = refl
ends (b ∷ back) xs once back_once there same =
    let next : next_in xs b ≡ first_of back = grind (arith, same b, eqb_tells b b) in
    from_name-step xs b once (there b (grind (arith, eqb_tells b b)))
    ∙ ap (λ o. b ∷ from_name o xs) next
    ∙ ap (λ ks. b ∷ ks) (ends back xs once back_once.1 (λ k e. there k (grind (arith, e))) (λ k e. grind (arith, e, same k, back_once.0, eqb_tells b k)))

-- a name that isn't in the front comes after it
pub from_name-behind : (k : ℕ) (front xs : List ℕ) → is_among k front ≡ false → from_name (Some k) (front ++ xs) ≡ from_name (Some k) xs
from_name-behind k [] xs e = refl
from_name-behind k (f ∷ front) xs e = grind (arith, e, from_name-behind k front xs)

-- what is before a name
pub split : (o : Option ℕ) (xs : List ℕ) → (before : List ℕ) × (xs ≡ before ++ from_name o xs)
split None xs = (xs, sym (append-nil xs))
split (Some k) [] = ([], refl)
split (Some k) (x ∷ xs) =
    elim (eqb_tells x k) [
      | inl own ↦ ([], grind (arith, own))
      | inr other ↦ (x ∷ (split (Some k) xs).0, grind (arith, other, (split (Some k) xs).1))
    ]

-- ---- neighbours in a list with a front

pub next_in-behind : (k : ℕ) (front xs : List ℕ) → is_among k front ≡ false → next_in (front ++ xs) k ≡ next_in xs k
next_in-behind k [] xs e = refl
next_in-behind k (f ∷ front) xs e = grind (arith, e, next_in-behind k front xs)

pub last_is : (x : ℕ) (xs : List ℕ) → (l : ℕ) × (last_of (x ∷ xs) ≡ Some l)
last_is x [] = (x, refl)
last_is x (y ∷ xs) = last_is y xs

pub last_from-append : (o : Option ℕ) (xs : List ℕ) (y : ℕ) (ys : List ℕ) → last_from o (xs ++ y ∷ ys) ≡ last_of (y ∷ ys)
last_from-append o [] y ys = refl
last_from-append o (x ∷ xs) y ys = last_from-append (Some x) xs y ys

-- the first after the front comes right after its last
pub next_in-last : (l : ℕ) (front xs : List ℕ) → NoRepeats (front ++ xs) → last_of front ≡ Some l → next_in (front ++ xs) l ≡ first_of xs
next_in-last l [] xs once e = absurd (grind (arith, e))
next_in-last l (f ∷ []) xs once e = grind (arith, e, eqb_tells f l)
next_in-last l (f ∷ g ∷ front) xs once e =
    grind (arith, next_in-last l (g ∷ front) xs once.1 e, once.0, last_of-among (g ∷ front) l e, is_among-append l (g ∷ front) xs, eqb_tells f l)

-- and the last of the names before comes right before it
pub previous_from-first : (o : Option ℕ) (xs : List ℕ) (b : ℕ) (back : List ℕ) → is_among b xs ≡ false → previous_from o (xs ++ b ∷ back) b ≡ last_from o xs
previous_from-first o [] b back e = grind (arith, eqb_tells b b)
previous_from-first o (x ∷ xs) b back e = grind (arith, e, previous_from-first (Some x) xs b back)

-- up to the last of these names are these
pub up_to_name-behind : (w : ℕ) (xs back : List ℕ) → NoRepeats (xs ++ back) → last_of xs ≡ Some w → up_to_name (Some w) (xs ++ back) ≡ xs
up_to_name-behind w [] back once e = absurd (grind (arith, e))
up_to_name-behind w (x ∷ []) back once e = grind (arith, e, eqb_tells x w)
up_to_name-behind w (x ∷ y ∷ xs) back once e =
    grind (arith, up_to_name-behind w (y ∷ xs) back once.1 e, once.0, last_of-among (y ∷ xs) w e, is_among-append w (y ∷ xs) back, eqb_tells x w)

-- ---- lists that agree around a run

-- the second list has the names of the front and the back, with the neighbours that they have in the first
abbrev pub AgreeAround : List ℕ → List ℕ → List ℕ → List ℕ → Type 0
AgreeAround front old back news =
    (k : ℕ) → (is_among k front || is_among k back) ≡ true →
    (is_among k news ≡ true) × (previous_in news k ≡ previous_in (front ++ (old ++ back)) k) × (next_in news k ≡ next_in (front ++ (old ++ back)) k)

-- it has this front and this back, and a run of its own between them
pub record IsShared (front old back news : List ℕ) : Type 0 where
  pub new : List ℕ
  pub list : news ≡ front ++ (new ++ back)

-- a name with none before it in the first list, which begins with it, begins the second too
pub first_shared : (f : ℕ) (front rest news : List ℕ) → NoRepeats news → is_among f news ≡ true → previous_in news f ≡ previous_in (f ∷ front ++ rest) f
    → first_of news ≡ Some f
first_shared f front rest news once there same =
    grind (arith, same, eqb_tells f f, is_named_tells (first_of news) f, is_none-previous_in news f once there)

-- it goes on after this front
front_shared : (front old back news : List ℕ) → NoRepeats (front ++ (old ++ back)) → NoRepeats news → AgreeAround front old back news
    → (behind : List ℕ) × (news ≡ front ++ behind)
front_shared [] old back news once news_once agree = (news, refl)
front_shared (f ∷ front) old back news once news_once agree =
    let own = agree f (grind (arith, eqb_tells f f)) in
    let b : BeginsWith (f ∷ front) (old ++ back) news =
    begins (f ∷ front) (old ++ back) news news_once once (first_shared f front (old ++ back) news news_once own.0 own.1)
    (λ k e. (agree k (grind (arith, e))).2) in
    (b.behind, b.list)

back_shared : (front old back news : List ℕ) → NoRepeats (front ++ (old ++ back)) → NoRepeats news → AgreeAround front old back news
    → from_name (first_of back) news ≡ back
back_shared front old back news once news_once agree =
    let behind_once : NoRepeats (old ++ back) = NoRepeats-right front (old ++ back) once in
    ends back news news_once (NoRepeats-right old back behind_once) (λ k e. (agree k (grind (arith, e))).0)
    (λ k e. (agree k (grind (arith, e))).2
    ∙ next_in-behind k front (old ++ back) (grind (arith, e, apart front (old ++ back) k once, is_among-append k old back))
    ∙ next_in-behind k old back (grind (arith, e, apart old back k behind_once)))

back_behind : (front old back xs : List ℕ) → NoRepeats (front ++ (old ++ back)) → from_name (first_of back) (front ++ xs) ≡ from_name (first_of back) xs
back_behind front old [] xs once = refl
back_behind front old (b ∷ back) xs once =
    from_name-behind b front xs (grind (arith, eqb_tells b b, apart front (old ++ b ∷ back) b once, is_among-append b old (b ∷ back)))

-- such a list has that front and that back
pub shared : (front old back news : List ℕ) → NoRepeats (front ++ (old ++ back)) → NoRepeats news → AgreeAround front old back news
    → (old ≡ [] → (front ≡ []) × (back ≡ [])) →
    IsShared front old back news
shared front old back news once news_once agree full =
    let begun = front_shared front old back news once news_once agree in
    let left = split (first_of back) begun.0 in
    let back_is : from_name (first_of back) begun.0 ≡ back =
    sym (back_behind front old back begun.0 once) ∙ ap (from_name (first_of back)) (sym begun.1) ∙ back_shared front old back news once news_once agree in
    record { new = left.0; list = begun.1 ∙ ap (λ ks. front ++ ks) (left.1 ∙ ap (λ ks. left.0 ++ ks) back_is) }

-- ---- the run of the second list

-- from the first name after the front on
run_begins : (front old back new : List ℕ) (from : Option ℕ) → NoRepeats (front ++ (old ++ back)) → NoRepeats (front ++ (new ++ back))
    → AgreeAround front old back (front ++ (new ++ back)) →
    (old ≡ [] → (front ≡ []) × (back ≡ [])) → (front ≡ [] → from ≡ first_of (front ++ (new ++ back))) → ((x : ℕ) → last_of front ≡ Some x → from ≡ first_of old)
    →
    from_name from (front ++ (new ++ back)) ≡ new ++ back
run_begins [] old back new from once news_once agree full at_first behind =
    ap (λ o. from_name o (new ++ back)) (at_first refl) ∙ from_name-first (new ++ back)
run_begins (f ∷ front) [] back new from once news_once agree full at_first behind = absurd (grind (arith, (full refl).0))
run_begins (f ∷ front) (o ∷ old) back new from once news_once agree full at_first behind =
    let last = last_is f front in
    let there : is_among last.0 (f ∷ front) ≡ true = last_of-among (f ∷ front) last.0 last.1 in
    let first : first_of (new ++ back) ≡ Some o =
    sym (next_in-last last.0 (f ∷ front) (new ++ back) news_once last.1) ∙ (agree last.0 (grind (arith, there))).2
    ∙ next_in-last last.0 (f ∷ front) (o ∷ old ++ back) once last.1 in
    ap (λ k. from_name k (f ∷ front ++ (new ++ back))) (behind last.0 last.1)
    ∙ from_name-behind o (f ∷ front) (new ++ back) (grind (arith, eqb_tells o o, apart (f ∷ front) (o ∷ old ++ back) o once))
    ∙ ap (λ k. from_name k (new ++ back)) (sym first) ∙ from_name-first (new ++ back)

-- the first of the back is neither in the front nor between
first_behind : (b : ℕ) (front ks back : List ℕ) → NoRepeats (front ++ (ks ++ b ∷ back)) → is_among b (front ++ ks) ≡ false
first_behind b front ks back once =
    grind (
      arith,
      eqb_tells b b,
      is_among-append b front ks,
      is_among-append b ks (b ∷ back),
      apart front (ks ++ b ∷ back) b once,
      apart ks (b ∷ back) b (NoRepeats-right front (ks ++ b ∷ back) once),
    )

-- a name that is last between stays so where it comes last after the front
last_behind : (w : ℕ) (front old new back : List ℕ) → NoRepeats (front ++ (old ++ back)) → last_of (front ++ new) ≡ Some w → last_of old ≡ Some w
    → last_of new ≡ Some w
last_behind w front old [] back once e own =
    absurd (grind (
      arith,
      last_of-among front w (ap last_of (sym (append-nil front)) ∙ e),
      last_of-among old w own,
      apart front (old ++ back) w once,
      is_among-append w old back,
    ))
last_behind w front old (n ∷ new) back once e own = sym (last_from-append None front n new) ∙ e

-- up to the last one before the back
run_ends : (front old back new : List ℕ) (to : Option ℕ) → NoRepeats (front ++ (old ++ back)) → NoRepeats (front ++ (new ++ back))
    → AgreeAround front old back (front ++ (new ++ back)) →
    (old ≡ [] → (front ≡ []) × (back ≡ [])) → (back ≡ [] → to ≡ None) → ((x : ℕ) → first_of back ≡ Some x → to ≡ last_of old) →
    up_to_end to (new ++ back) ≡ new
run_ends front old [] new to once news_once agree full at_end before =
    ap (λ o. up_to_end o (new ++ [])) (at_end refl) ∙ append-nil new
run_ends front [] (b ∷ back) new to once news_once agree full at_end before = absurd (grind (arith, (full refl).1))
run_ends front (o ∷ old) (b ∷ back) new to once news_once agree full at_end before =
    let last = last_is o old in
    let before_old : previous_in (front ++ (o ∷ old ++ b ∷ back)) b ≡ Some last.0 =
    ap (λ ks. previous_in ks b) (sym (append_assoc front (o ∷ old) (b ∷ back)))
    ∙ previous_from-first None (front ++ o ∷ old) b back (first_behind b front (o ∷ old) back once)
    ∙ last_from-append None front o old ∙ last.1 in
    let before_new : previous_in (front ++ (new ++ b ∷ back)) b ≡ last_of (front ++ new) =
    ap (λ ks. previous_in ks b) (sym (append_assoc front new (b ∷ back)))
    ∙ previous_from-first None (front ++ new) b back (first_behind b front new back news_once) in
    ap (λ k. up_to_end k (new ++ b ∷ back)) (before b refl ∙ last.1)
    ∙ up_to_name-behind last.0 new (b ∷ back) (NoRepeats-right front (new ++ b ∷ back) news_once)
    (last_behind last.0 front (o ∷ old) new (b ∷ back) once (sym before_new ∙ (agree b (grind (arith, eqb_tells b b))).1 ∙ before_old) last.1)

-- what is in the second list between the front and the back is what is read from the first name to the last
pub shared_run : (front old back news : List ℕ) → NoRepeats (front ++ (old ++ back)) → NoRepeats news → AgreeAround front old back news
    → (old ≡ [] → (front ≡ []) × (back ≡ [])) →
    (s : IsShared front old back news) (from to : Option ℕ) →
    (front ≡ [] → from ≡ first_of news) → ((x : ℕ) → last_of front ≡ Some x → from ≡ first_of old) →
    (back ≡ [] → to ≡ None) → ((x : ℕ) → first_of back ≡ Some x → to ≡ last_of old) →
    s.new ≡ between_names from to news
shared_run front old back news once news_once agree full s from to at_first behind at_end before =
    let whole_once : NoRepeats (front ++ (s.new ++ back)) = subst NoRepeats s.list news_once in
    let whole_agree : AgreeAround front old back (front ++ (s.new ++ back)) = subst (AgreeAround front old back) s.list agree in
    sym (ap (λ ks. up_to_end to (from_name from ks)) s.list
    ∙ ap (up_to_end to) (run_begins front old back s.new from once whole_once whole_agree full (λ e. at_first e ∙ ap first_of s.list) behind)
    ∙ run_ends front old back s.new to once whole_once whole_agree full at_end before)

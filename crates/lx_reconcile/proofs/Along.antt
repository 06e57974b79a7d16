-- What a step of the code does to `IsAlong`.
use Rattle.std.proofs.Common.{◌≡◌, ◌∙◌, sym, ap, ℕ, ◌+◌, ◌<◌, ◌≤◌, true, false, cond, eqb, List, [], ◌∷◌, ◌++◌, length, drop, slice_get, Option, None, ◌⊎◌, inl, inr, refl, subst, arith}
use Rattle.lx_trees.specs.Siblings.{is_among, first_of, names_without, NoRepeats}
use Rattle.lx_trees.proofs.Siblings.{is_named_tells}
use Rattle.lx_reconcile.specs.declared.moves.Move.{Move}
use Rattle.lx_reconcile.specs.declared.moves.Move.TheVariants.{Stay, Leave, Make, Place}
use Rattle.lx_reconcile.specs.declared.progress.Progress.{Progress}
use Rattle.lx_reconcile.specs.declared.progress.Case.TheVariants as case
use Rattle.lx_reconcile.specs.Walk.{missing, IsWalk}
use Rattle.lx_reconcile.specs.Underway.{IsWalking, IsAlong, GoesOn, case_of, with_handled, settled_by, left_of}
use Rattle.lx_reconcile.proofs.Lists.{missing-push}
use Rattle.lx_reconcile.proofs.Steps.{step-same, step-gone, step-made, step-at_cursor, step-placed, next-undone}
use Rattle.lx_reconcile.proofs.Ends.{begun, new-left, old-left, walked}
use Rattle.lx_reconcile.proofs.Places.{drop_from, drop_none, get_within, get_past}
use Rattle.lx_reconcile.proofs.Cases.{Says, said}
use Rattle.std.proofs.lemmas.List.{drop_all}

-- the same walk by equal lists
alike : {olds news old new back done old_too new_too back_too done_too : List ℕ} {moves moves_too : List Move} → IsWalking olds news old new back done moves →
    old ≡ old_too → new ≡ new_too → back ≡ back_too → done ≡ done_too → moves ≡ moves_too → IsWalking olds news old_too new_too back_too done_too moves_too
alike {olds = olds} {news = news} w a b c d e = subst (λ t. t) (λ i. IsWalking olds news (a i) (b i) (c i) (d i) (e i)) w

with_handled-new : (k : ℕ) (ks : List ℕ) → is_among k ks ≡ false → with_handled k ks ≡ ks ++ k ∷ []
with_handled-new k ks e = ap (λ b. cond b ks (ks ++ k ∷ [])) e

-- the cursor goes on over handled children
pub along-at : (olds news : List ℕ) (p : Progress) (at : ℕ) → IsAlong olds news p →
    missing (drop at olds) p.handled.keys ≡ missing (drop p.at olds) p.handled.keys → at ≤ length olds → IsAlong olds news (record p { at = at })
along-at olds news p at a same within = record {
  walking = alike a.walking refl refl (sym same) refl refl;
  old_once = a.old_once;
  new_once = a.new_once;
  passed_within = a.passed_within;
  reached_within = a.reached_within;
  at_within = within;
}

-- what the code has come to, from the walk that it means and the numbers
goes-on : (olds news back done : List ℕ) (p q : Progress) (m : Move) (passed reached at : ℕ) → IsAlong olds news p → GoesOn p q m done passed reached at →
    IsWalking olds news (drop passed olds) (drop reached news) back done (p.moves.items ++ m ∷ []) → back ≡ missing (drop at olds) done →
    passed ≤ length olds → reached ≤ length news → at ≤ length olds → IsAlong olds news q
goes-on olds news back done p q m passed reached at a on w back_is passed_within reached_within at_within = record {
  walking = alike w (ap (λ n. drop n olds) (sym on.passed_is)) (ap (λ n. drop n news) (sym on.reached_is))
      (back_is ∙ (λ i. missing (drop (sym on.at_is i) olds) (sym on.handled_are i))) (sym on.handled_are) (sym on.moves_are);
  old_once = a.old_once;
  new_once = a.new_once;
  passed_within = omega (arith, on.passed_is);
  reached_within = omega (arith, on.reached_is);
  at_within = omega (arith, on.at_is);
}

pub along-same : (olds news : List ℕ) (p q : Progress) (k : ℕ) → IsAlong olds news p
    → case_of olds news (slice_get olds p.passed) (slice_get news p.reached) ≡ case.Same k →
    GoesOn p q (Stay k) (with_handled k p.handled.keys) (p.passed + 1) (p.reached + 1) (p.passed + 1) → IsAlong olds news q
along-same olds news p q k a met on =
    let says : Says olds news (slice_get olds p.passed) (slice_get news p.reached) (case.Same k) = said olds news _ _ _ met in
    let w : IsWalking olds news (k ∷ drop (p.passed + 1) olds) (k ∷ drop (p.reached + 1) news) (missing (drop p.at olds) p.handled.keys) p.handled.keys
    p.moves.items =
    alike a.walking (drop_from olds p.passed k says.0) (drop_from news p.reached k says.1) refl refl refl in
    let grown : with_handled k p.handled.keys ≡ p.handled.keys ++ k ∷ [] =
    with_handled-new k p.handled.keys (next-undone k news p.handled.keys (drop (p.reached + 1) news) a.new_once w.news_are) in
    let v = step-same k olds news (drop (p.passed + 1) olds) (drop (p.reached + 1) news) _ p.handled.keys p.moves.items a.new_once w in
    goes-on olds news _ (with_handled k p.handled.keys) p q (Stay k) (p.passed + 1) (p.reached + 1) (p.passed + 1) a on
    (alike v refl refl refl (sym grown) refl) (ap (missing (drop (p.passed + 1) olds)) (sym grown))
    (get_within olds p.passed k says.0) (get_within news p.reached k says.1) (get_within olds p.passed k says.0)

-- the next child before leaves, also where none after is left
gone-known : (olds news back done : List ℕ) (p : Progress) (o : ℕ)
    → IsWalking olds news (o ∷ drop (p.passed + 1) olds) (drop p.reached news) back done p.moves.items →
    (slice_get news p.reached ≡ None) ⊎ (is_among o news ≡ false) → is_among o news ≡ false
gone-known olds news back done p o w (inl e) =
    old-left o olds news (drop (p.passed + 1) olds) back done p.moves.items (alike w refl (drop_none news p.reached e) refl refl refl)
gone-known olds news back done p o w (inr e) = e

pub along-gone : (olds news : List ℕ) (p q : Progress) (o : ℕ) → IsAlong olds news p
    → case_of olds news (slice_get olds p.passed) (slice_get news p.reached) ≡ case.Gone o →
    GoesOn p q (Leave o) p.handled.keys (p.passed + 1) p.reached (p.passed + 1) → IsAlong olds news q × (left_of olds news q < left_of olds news p)
along-gone olds news p q o a met on =
    let says : Says olds news (slice_get olds p.passed) (slice_get news p.reached) (case.Gone o) = said olds news _ _ _ met in
    let w : IsWalking olds news (o ∷ drop (p.passed + 1) olds) (drop p.reached news) (missing (drop p.at olds) p.handled.keys) p.handled.keys p.moves.items =
    alike a.walking (drop_from olds p.passed o says.0) refl refl refl refl in
    let v = step-gone o olds news (drop (p.passed + 1) olds) (drop p.reached news) _ p.handled.keys p.moves.items
    (gone-known olds news _ p.handled.keys p o w says.1) w in
    let within = get_within olds p.passed o says.0 in (
      goes-on olds news _ p.handled.keys p q (Leave o) (p.passed + 1) p.reached (p.passed + 1) a on v refl within a.reached_within within,
      omega (arith, within, on.passed_is, on.reached_is),
    )

-- the next child after is new, also where none before is left
new-known : (olds news back done : List ℕ) (p : Progress) (n : ℕ)
    → IsWalking olds news (drop p.passed olds) (n ∷ drop (p.reached + 1) news) back done p.moves.items →
    (slice_get olds p.passed ≡ None) ⊎ (is_among n olds ≡ false) → is_among n olds ≡ false
new-known olds news back done p n w (inl e) =
    new-left n olds news (drop (p.reached + 1) news) back done p.moves.items (alike w (drop_none olds p.passed e) refl refl refl refl)
new-known olds news back done p n w (inr e) = e

pub along-new : (olds news : List ℕ) (p q : Progress) (n : ℕ) (before : Option ℕ) → IsAlong olds news p →
    case_of olds news (slice_get olds p.passed) (slice_get news p.reached) ≡ case.New n → before ≡ first_of (missing (drop p.at olds) p.handled.keys) →
    GoesOn p q (Make n before) (with_handled n p.handled.keys) p.passed (p.reached + 1) p.at → IsAlong olds news q × (left_of olds news q < left_of olds news p)
along-new olds news p q n before a met at on =
    let says : Says olds news (slice_get olds p.passed) (slice_get news p.reached) (case.New n) = said olds news _ _ _ met in
    let back : List ℕ = missing (drop p.at olds) p.handled.keys in
    let w : IsWalking olds news (drop p.passed olds) (n ∷ drop (p.reached + 1) news) back p.handled.keys p.moves.items =
    alike a.walking refl (drop_from news p.reached n says.0) refl refl refl in
    let grown : with_handled n p.handled.keys ≡ p.handled.keys ++ n ∷ [] =
    with_handled-new n p.handled.keys (next-undone n news p.handled.keys (drop (p.reached + 1) news) a.new_once w.news_are) in
    let v = step-made n olds news (drop p.passed olds) (drop (p.reached + 1) news) back p.handled.keys p.moves.items a.new_once
    (new-known olds news back p.handled.keys p n w says.1) w in
    let within = get_within news p.reached n says.0 in (
      goes-on olds news _ (with_handled n p.handled.keys) p q (Make n before) p.passed (p.reached + 1) p.at a on
          (alike v refl refl refl (sym grown) (ap (λ b. p.moves.items ++ Make n b ∷ []) (sym at)))
          (sym (missing-push n (drop p.at olds) p.handled.keys) ∙ ap (missing (drop p.at olds)) (sym grown))
          a.passed_within within a.at_within,
      omega (arith, within, on.passed_is, on.reached_is),
    )

-- the child at the cursor stays, and any other is placed there
step-settled : (o n : ℕ) (olds news old new back done : List ℕ) (moves : List Move) → NoRepeats news →
    is_among o news ≡ true → is_among n olds ≡ true → eqb o n ≡ false → IsWalking olds news (o ∷ old) (n ∷ new) back done moves →
    IsWalking olds news old new (names_without n back) (done ++ n ∷ []) (moves ++ settled_by n (first_of back) ∷ [])
step-settled o n olds news old new back done moves once o_news n_olds other w =
    elim (is_named_tells (first_of back) n) [
      | inl same ↦ alike (step-at_cursor o n olds news old new back done moves once o_news n_olds other same.1 w) refl refl refl refl
          (ap (λ b. moves ++ cond b (Stay n) (Place n (first_of back)) ∷ []) (sym same.0))
      | inr apart ↦ alike (step-placed o n olds news old new back done moves once o_news n_olds other apart.0 w) refl refl refl refl
          (ap (λ b. moves ++ cond b (Stay n) (Place n (first_of back)) ∷ []) (sym apart.0))
    ]

pub along-settled : (olds news : List ℕ) (p q : Progress) (n : ℕ) (before : Option ℕ) → IsAlong olds news p →
    case_of olds news (slice_get olds p.passed) (slice_get news p.reached) ≡ case.Settled n → before ≡ first_of (missing (drop p.at olds) p.handled.keys) →
    GoesOn p q (settled_by n before) (with_handled n p.handled.keys) (p.passed + 1) (p.reached + 1) p.at → IsAlong olds news q
along-settled olds news p q n before a met at on =
    let says : Says olds news (slice_get olds p.passed) (slice_get news p.reached) (case.Settled n) = said olds news _ _ _ met in
    let back : List ℕ = missing (drop p.at olds) p.handled.keys in
    let w : IsWalking olds news (says.0 ∷ drop (p.passed + 1) olds) (n ∷ drop (p.reached + 1) news) back p.handled.keys p.moves.items =
    alike a.walking (drop_from olds p.passed says.0 says.1) (drop_from news p.reached n says.2) refl refl refl in
    let grown : with_handled n p.handled.keys ≡ p.handled.keys ++ n ∷ [] =
    with_handled-new n p.handled.keys (next-undone n news p.handled.keys (drop (p.reached + 1) news) a.new_once w.news_are) in
    let v = step-settled says.0 n olds news (drop (p.passed + 1) olds) (drop (p.reached + 1) news) back p.handled.keys p.moves.items a.new_once
    says.4 says.5 says.3 w in
    goes-on olds news _ (with_handled n p.handled.keys) p q (settled_by n before) (p.passed + 1) (p.reached + 1) p.at a on
    (alike v refl refl refl (sym grown) (ap (λ b. p.moves.items ++ settled_by n b ∷ []) (sym at)))
    (sym (missing-push n (drop p.at olds) p.handled.keys) ∙ ap (missing (drop p.at olds)) (sym grown))
    (get_within olds p.passed says.0 says.1) (get_within news p.reached n says.2) a.at_within

-- ---- how it begins and ends

pub along-begun : (olds news : List ℕ) (p : Progress) → NoRepeats olds → NoRepeats news → p.passed ≡ 0 → p.reached ≡ 0 → p.at ≡ 0 → p.handled.keys ≡ []
    → p.moves.items ≡ [] →
    IsAlong olds news p
along-begun olds news p once other passed reached at handled moves = record {
  walking = alike (begun olds news once other) (ap (λ n. drop n olds) (sym passed)) (ap (λ n. drop n news) (sym reached))
      (λ i. missing (drop (sym at i) olds) (sym handled i)) (sym handled) (sym moves);
  old_once = once;
  new_once = other;
  passed_within = omega (arith, passed);
  reached_within = omega (arith, reached);
  at_within = omega (arith, at);
}

pub along-ended : (olds news : List ℕ) (p : Progress) → IsAlong olds news p → (0 < left_of olds news p → ⊥) → IsWalk olds news p.moves.items
along-ended olds news p a over =
    let old_over : length olds ≤ p.passed = omega (arith, over) in
    let new_over : length news ≤ p.reached = omega (arith, over) in
    walked olds news (missing (drop p.at olds) p.handled.keys) p.handled.keys p.moves.items
    (alike a.walking (drop_all p.passed olds old_over) (drop_all p.reached news new_over) refl refl refl)

-- ---- how many children are left

pub none-left : (olds news : List ℕ) (p : Progress) → case_of olds news (slice_get olds p.passed) (slice_get news p.reached) ≡ case.Neither
    → left_of olds news p ≡ 0
none-left olds news p met =
    let says : Says olds news (slice_get olds p.passed) (slice_get news p.reached) case.Neither = said olds news _ _ _ met in
    omega (arith, get_past olds p.passed says.0, get_past news p.reached says.1)

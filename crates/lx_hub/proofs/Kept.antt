-- What each call keeps of a hub.
use Rattle.std.proofs.Common.{◌≡◌, ◌∙◌, ℕ, zero, suc, ◌+◌, ◌-◌, ◌<◌, ◌≤◌, true, false, cond, eqb, List, [], ◌∷◌, ◌++◌, length, take, get_or, Option, None, Some, refl, sym, ap, subst, arith, length-append, length-take}
use Rattle.std.specs.List.{AllByRecursion, slice_get, slice_set, remove}
use Rattle.std.proofs.lemmas.Bool.Decides.{nat_tests, eqb_tells}
use Rattle.lx_node.specs.Limits.{last_u32}
use Rattle.lx_host.specs.declared.op.Op.{Op}
use Rattle.lx_host.specs.Hosts.{HostTree, FitInTurn, Leads}
use Rattle.lx_hub.specs.Hub.{View, Hub, published, next_view, detached, effects, taken, advanced, taken_if, delivery_to, is_kept, oldest, without_view, is_numbered}
use Rattle.lx_hub.specs.Standing.{IsHub, IsLagging, LeadToTip}
use Rattle.lx_hub.specs.Places.{IsAt}
use Rattle.lx_hub.proofs.Following.{lead_on, lead_less, made_now}
use Rattle.std.proofs.lemmas.Option.{get_or_from_slice_get}
use Rattle.lx_hub.specs.declared.hub.Delivery.TheVariants.{Applied, Level, Behind}

-- ---- lists

module _ {X : Type 0} where
  pub take_take : (m n : ℕ) (xs : List X) → m ≤ n → take m (take n xs) ≡ take m xs
  take_take zero n xs less = refl
  take_take (suc m) zero xs less = absurd (omega arith)
  take_take (suc m) (suc n) [] less = refl
  take_take (suc m) (suc n) (x ∷ xs) less = ap (λ l. x ∷ l) (take_take m n xs (omega arith))

  -- up to one item more
  pub take_read : (xs : List X) (m : ℕ) (x : X) → slice_get xs m ≡ Some x → take (suc m) xs ≡ take m xs ++ x ∷ []
  take_read [] m x read = absurd (cc)
  take_read (y ∷ ys) zero x read = let e : y ≡ x = cc in ap (λ z. z ∷ []) e
  take_read (y ∷ ys) (suc m) x read = ap (λ l. y ∷ l) (take_read ys m x read)

  pub read_within : (xs : List X) (m : ℕ) (x : X) → slice_get xs m ≡ Some x → m < length xs
  read_within [] m x read = absurd (cc)
  read_within (y ∷ ys) zero x read = omega arith
  read_within (y ∷ ys) (suc m) x read = let h = read_within ys m x read in omega arith

  pub all_read : (P : X → Type 0) (xs : List X) (m : ℕ) (x : X) → AllByRecursion P xs → slice_get xs m ≡ Some x → P x
  all_read P [] m x all read = absurd (cc)
  all_read P (y ∷ ys) zero x all read = let e : y ≡ x = cc in subst P e all.0
  all_read P (y ∷ ys) (suc m) x all read = all_read P ys m x all.1 read

  pub all_set : (P : X → Type 0) (xs : List X) (m : ℕ) (x : X) → AllByRecursion P xs → P x → AllByRecursion P (slice_set xs m x)
  all_set P [] m x all own = tt
  all_set P (y ∷ ys) zero x all own = (own, all.1)
  all_set P (y ∷ ys) (suc m) x all own = (all.0, all_set P ys m x all.1 own)

  pub all_behind : (P : X → Type 0) (xs : List X) (x : X) → AllByRecursion P xs → P x → AllByRecursion P (xs ++ x ∷ [])
  all_behind P [] x all own = (own, tt)
  all_behind P (y ∷ ys) x all own = (all.0, all_behind P ys x all.1 own)

  pub all_map : (P Q : X → Type 0) (xs : List X) → ((x : X) → P x → Q x) → AllByRecursion P xs → AllByRecursion Q xs
  all_map P Q [] goes all = tt
  all_map P Q (x ∷ xs) goes all = (goes x all.0, all_map P Q xs goes all.1)

  pub length_set : (xs : List X) (m : ℕ) (x : X) → length (slice_set xs m x) ≡ length xs
  length_set [] m x = refl
  length_set (y ∷ ys) zero x = refl
  length_set (y ∷ ys) (suc m) x = ap suc (length_set ys m x)

all_left : (P : View → Type 0) (n : ℕ) (vs : List View) → AllByRecursion P vs → AllByRecursion P (without_view n vs)
all_left P n [] all = tt
all_left P n (v ∷ vs) all =
    elim (is_numbered n v) as (λ b. AllByRecursion P (cond b vs (v ∷ without_view n vs))) [ true ↦ all.1 | false ↦ (all.0, all_left P n vs all.1) ]

fewer : (n : ℕ) (vs : List View) → length (without_view n vs) ≤ length vs
fewer n [] = omega arith
fewer n (v ∷ vs) =
    let less = fewer n vs in
    elim (is_numbered n v) as (λ b. length (cond b vs (v ∷ without_view n vs)) ≤ suc (length vs)) [ true ↦ omega arith | false ↦ omega arith ]

-- ---- what is published

published_view : (h : Hub) (ops : List Op) (v : View) → FitInTurn h.tip ops → IsLagging h v → IsLagging (published ops h) v
published_view h ops v fits lags = record {
  within = omega (arith, lags.within);
  leads = λ kept.
      let lag : ℕ = h.commits - v.reached in
      let one_more : h.commits + 1 - v.reached ≡ suc lag = omega (arith, lags.within) in
      let few : suc lag ≤ 100 = omega (arith, one_more, kept, length-take 100 (ops ∷ h.kept)) in
      let there : lag ≤ length h.kept = omega (arith, one_more, kept, length-take 100 (ops ∷ h.kept)) in
      let same : take (h.commits + 1 - v.reached) (take 100 (ops ∷ h.kept)) ≡ ops ∷ take lag h.kept =
      ap (λ m. take m (take 100 (ops ∷ h.kept))) one_more ∙ take_take (suc lag) 100 (ops ∷ h.kept) few in
      subst (λ bs. LeadToTip bs v.tree (effects ops h.tip)) (sym same) (lead_on (take lag h.kept) ops v.tree h.tip (lags.leads there) fits);
}

pub published_hub : (h : Hub) (ops : List Op) → FitInTurn h.tip ops → h.commits < last_u32 → IsHub h → IsHub (published ops h)
published_hub h ops fits room is = record {
  numbered = omega (arith, room);
  few = is.few;
  kept = length-take 100 (ops ∷ h.kept) ∙ (omega (arith, is.kept));
  each = all_map (IsLagging h) (IsLagging (published ops h)) h.views (λ v. published_view h ops v fits) is.each;
}

-- ---- what comes and goes

new_view : (h : Hub) → IsLagging h (next_view h)
new_view h = record {
  within = omega arith;
  leads = λ kept.
      let none : h.commits - h.commits ≡ 0 = omega arith in
      subst (λ m. LeadToTip (take m h.kept) h.tip h.tip) (sym none) (record { fit = tt; lead = refl });
}

pub with_view : (h : Hub) → length h.views < 32 → IsHub h → IsHub (record h { views = h.views ++ next_view h ∷ []; made = h.made + 1 })
with_view h room is = record {
  numbered = is.numbered;
  few = omega (arith, length-append h.views (next_view h ∷ []));
  kept = is.kept;
  each = all_map (IsLagging h) (IsLagging (record h { views = h.views ++ next_view h ∷ []; made = h.made + 1 })) (h.views ++ next_view h ∷ [])
      (λ v lags. record { within = lags.within; leads = lags.leads }) (all_behind (IsLagging h) h.views (next_view h) is.each (new_view h));
}

pub detached_hub : (h : Hub) (n : ℕ) → IsHub h → IsHub (detached n h)
detached_hub h n is = record {
  numbered = is.numbered;
  few = omega (arith, fewer n h.views, is.few);
  kept = is.kept;
  each = all_map (IsLagging h) (IsLagging (detached n h)) (without_view n h.views) (λ v lags. record { within = lags.within; leads = lags.leads })
      (all_left (IsLagging h) n h.views is.each);
}

-- ---- deliveries

-- the batch after the one that a view has reached fits its tree, and the view lags behind the tip with it
pub next_fits : (h : Hub) (v : View) (ops : List Op) → IsLagging h v → v.reached < h.commits → slice_get h.kept (h.commits - v.reached - 1) ≡ Some ops
    → FitInTurn v.tree ops × IsLagging h (taken ops v)
next_fits h v ops lags behind read =
    let lag : ℕ = h.commits - v.reached - 1 in
    let one_more : h.commits - v.reached ≡ suc lag = omega (arith, behind) in
    let inside : lag < length h.kept = read_within h.kept lag ops read in
    let there : h.commits - v.reached ≤ length h.kept = omega (arith, one_more, inside) in
    let split : take (h.commits - v.reached) h.kept ≡ take lag h.kept ++ ops ∷ [] = ap (λ m. take m h.kept) one_more ∙ take_read h.kept lag ops read in
    let less = lead_less (take lag h.kept) ops v.tree h.tip (subst (λ bs. LeadToTip bs v.tree h.tip) split (lags.leads there)) in
    let same : h.commits - (v.reached + 1) ≡ lag = omega (arith, behind) in (
      less.0,
      record {
        within = omega (arith, behind);
        leads = λ kept. subst (λ m. LeadToTip (take m h.kept) (effects ops v.tree) h.tip) (sym same) less.1;
      },
    )

pub with_taken : (h : Hub) (at : ℕ) (v : View) → IsHub h → IsLagging h v → IsHub (record h { views = slice_set h.views at v })
with_taken h at v is lags = record {
  numbered = is.numbered;
  few = omega (arith, length_set h.views at v, is.few);
  kept = is.kept;
  each = all_map (IsLagging h) (IsLagging (record h { views = slice_set h.views at v })) (slice_set h.views at v)
      (λ v lags. record { within = lags.within; leads = lags.leads }) (all_set (IsLagging h) h.views at v is.each lags);
}

-- ---- what a delivery does and answers

-- an item that is put where it is changes nothing
module _ {X : Type 0} where
  set_read : (xs : List X) (m : ℕ) (x : X) → slice_get xs m ≡ Some x → slice_set xs m x ≡ xs
  set_read [] m x read = refl
  set_read (y ∷ ys) zero x read = let e : x ≡ y = cc in ap (λ z. z ∷ ys) e
  set_read (y ∷ ys) (suc m) x read = ap (λ l. y ∷ l) (set_read ys m x read)

stays : (h : Hub) (at : ℕ) (v : View) → slice_get h.views at ≡ Some v → (w : View) → w ≡ v → h ≡ record h { views = slice_set h.views at w }
stays h at v read w same =
    ap (λ (l : List View). record { tip = h.tip; commits = h.commits; kept = h.kept; views = l; made = h.made })
    (sym (set_read h.views at v read) ∙ ap (slice_set h.views at) (sym same))

pub level_stays : (h : Hub) (at : ℕ) (v : View) → slice_get h.views at ≡ Some v → v.reached ≡ h.commits
    → h ≡ record h { views = slice_set h.views at (advanced h v) }
level_stays h at v read level =
    let yes : eqb v.reached h.commits ≡ true = grind (arith, eqb_tells v.reached h.commits) in
    stays h at v read (advanced h v) (ap (λ b. taken_if (cond b None (slice_get h.kept (h.commits - v.reached - 1))) v) yes)

-- the next batch is no longer kept
past : {X : Type 0} (xs : List X) (m : ℕ) → slice_get xs m ≡ None → length xs ≤ m
past [] m none = omega arith
past (x ∷ xs) zero none = absurd (cc)
past (x ∷ xs) (suc m) none = let h = past xs m none in omega arith

pub behind_answer : (h : Hub) (v : View) (r : ℕ) → IsHub h → r ≡ v.reached → r < h.commits → slice_get h.kept (h.commits - r - 1) ≡ None
    → Behind r (oldest h) ≡ delivery_to h v
behind_answer h v r is same less none =
    let far : length h.kept ≤ h.commits - r - 1 = past h.kept (h.commits - r - 1) none in
    let other : eqb v.reached h.commits ≡ false = grind (arith, eqb_tells v.reached h.commits) in
    let bound : v.reached + 1 ≤ h.commits - 100 = omega (arith, far, less, is.kept, same) in
    let gone : is_kept h (v.reached + 1) ≡ false = grind (arith, nat_tests) in
    ap (λ n. Behind n (oldest h)) same
    ∙ sym (ap (λ b. cond b (Level v.reached) (cond (is_kept h (v.reached + 1)) (Applied (v.reached + 1)) (Behind v.reached (oldest h)))) other
    ∙ ap (λ b. cond b (Applied (v.reached + 1)) (Behind v.reached (oldest h))) gone)

advanced_by : (h : Hub) (v : View) (r : ℕ) (o : Option (List Op)) → r ≡ v.reached → r < h.commits → slice_get h.kept (h.commits - r - 1) ≡ o
    → advanced h v ≡ taken_if o v
advanced_by h v r o same less read =
    let other : eqb v.reached h.commits ≡ false = grind (arith, eqb_tells v.reached h.commits) in
    ap (λ b. taken_if (cond b None (slice_get h.kept (h.commits - v.reached - 1))) v) other
    ∙ ap (λ n. taken_if (slice_get h.kept (h.commits - n - 1)) v) (sym same)
    ∙ ap (λ o. taken_if o v) read

pub behind_stays : (h : Hub) (at : ℕ) (v : View) (r : ℕ) → slice_get h.views at ≡ Some v → r ≡ v.reached → r < h.commits
    → slice_get h.kept (h.commits - r - 1) ≡ None
    → h ≡ record h { views = slice_set h.views at (advanced h v) }
behind_stays h at v r read same less none = stays h at v read (advanced h v) (advanced_by h v r None same less none)

-- the next batch is kept, and the view takes it
pub applied_answer : (h : Hub) (v : View) (r : ℕ) (ops : List Op) → IsHub h → r ≡ v.reached → r < h.commits → slice_get h.kept (h.commits - r - 1) ≡ Some ops
    → Applied (r + 1) ≡ delivery_to h v
applied_answer h v r ops is same less read =
    let near : h.commits - r - 1 < length h.kept = read_within h.kept (h.commits - r - 1) ops read in
    let other : eqb v.reached h.commits ≡ false = grind (arith, eqb_tells v.reached h.commits) in
    let bound : h.commits - 100 < v.reached + 1 = omega (arith, near, less, is.kept, same) in
    let there : is_kept h (v.reached + 1) ≡ true = grind (arith, nat_tests) in
    ap (λ n. Applied (n + 1)) same
    ∙ sym (ap (λ b. cond b (Level v.reached) (cond (is_kept h (v.reached + 1)) (Applied (v.reached + 1)) (Behind v.reached (oldest h)))) other
    ∙ ap (λ b. cond b (Applied (v.reached + 1)) (Behind v.reached (oldest h))) there)

-- what a view needs to take its next batch
pub may_advance : (h : Hub) (at : ℕ) (v : View) (r : ℕ) (ops : List Op) → IsHub h → slice_get h.views at ≡ Some v → r ≡ v.reached → r < h.commits
    → slice_get h.kept (h.commits - r - 1) ≡ Some ops
    → (w : View) × (slice_get h.views at ≡ Some w) × FitInTurn w.tree ops × (w.reached < last_u32) × IsLagging h (taken ops w)
may_advance h at v r ops is read same less next =
    let lags = all_read (IsLagging h) h.views at v is.each read in
    let next_there : slice_get h.kept (h.commits - v.reached - 1) ≡ Some ops = ap (λ n. slice_get h.kept (h.commits - n - 1)) (sym same) ∙ next in
    let fits = next_fits h v ops lags (omega (arith, same, less)) next_there in
    (v, read, fits.0, omega (arith, same, less, is.numbered), fits.1)

-- ---- what the calls leave, by the fields that they change

abbrev pub with_views : List View → Hub → Hub
with_views l g = record { tip = g.tip; commits = g.commits; kept = g.kept; views = l; made = g.made }

-- the view that is read at a place
pub view_read : (xs ys : List View) (at : ℕ) (v w : View) → xs ≡ ys → slice_get ys at ≡ Some v → w ≡ get_or xs at w → w ≡ v
view_read xs ys at v w same read is =
    is ∙ get_or_from_slice_get xs at v w (ap (λ l. slice_get l at) same ∙ read)

pub detached_now : (a h : Hub) (n at : ℕ) (v : View) (ys : List View) → a ≡ h → IsAt n h.views at v → ys ≡ remove a.views at → with_views ys a ≡ detached n h
detached_now a h n at v ys view is items =
    ap (λ l. with_views l a) (items ∙ ap (λ (g : Hub). remove g.views at) view ∙ sym is.without)
    ∙ ap (with_views (without_view n h.views)) view

pub published_now : (a h : Hub) (batch ops xs : List Op) (t w : HostTree) (pushed kept : List (List Op)) → a ≡ h → batch ≡ ops → t ≡ a.tip → xs ≡ ops
    → Leads t xs w
    → pushed ≡ batch ∷ a.kept → kept ≡ take 100 pushed
    → record { tip = w; commits = a.commits + 1; kept = kept; views = a.views; made = a.made } ≡ published ops h
published_now a h batch ops xs t w pushed kept view copied same items leads front fewest =
    ap (λ (s : HostTree). record { tip = s; commits = a.commits + 1; kept = kept; views = a.views; made = a.made }) (made_now a.tip t w xs ops same items leads)
    ∙ ap (λ (l : List (List Op)). record { tip = effects ops a.tip; commits = a.commits + 1; kept = l; views = a.views; made = a.made })
    (fewest ∙ ap (take 100) (front ∙ ap (λ b. b ∷ a.kept) copied))
    ∙ ap (published ops) view

pub attached_now : (a : Hub) (tree : HostTree) (w : View) (vs : List View) → tree ≡ a.tip → w ≡ record { number = a.made + 1; reached = a.commits; tree = tree }
    → vs ≡ a.views ++ w ∷ []
    → length a.views < 32 → IsHub a → IsHub (record { tip = a.tip; commits = a.commits; kept = a.kept; views = vs; made = a.made + 1 })
attached_now a tree w vs copied made items room is =
    let same : vs ≡ a.views ++ next_view a ∷ [] =
    items ∙ ap (λ (u : View). a.views ++ u ∷ []) (made ∙ ap (λ (t : HostTree). record { number = a.made + 1; reached = a.commits; tree = t }) copied) in
    subst (λ (l : List View). IsHub (record { tip = a.tip; commits = a.commits; kept = a.kept; views = l; made = a.made + 1 })) (sym same) (with_view a room is)

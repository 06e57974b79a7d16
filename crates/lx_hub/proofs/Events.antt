-- Each view is at the commit to which it has come, for every list of events.
use Rattle.std.proofs.Common.{◌≡◌, ◌∙◌, ℕ, zero, suc, ◌+◌, ◌-◌, ◌<◌, ◌≤◌, Bool, true, false, ◌&&◌, if◌then◌else◌, cond, eqb, List, [], ◌∷◌, ◌++◌, length, take, drop, Option, None, Some, refl, sym, ap, subst, arith}
use Rattle.std.specs.List.{AllByRecursion, slice_get}
use Rattle.std.proofs.lemmas.Bool.Decides.{nat_tests, eqb_tells}
use Rattle.lx_host.specs.declared.op.Op.{Op}
use Rattle.lx_host.specs.Hosts.{HostTree, new_tree, shape_of}
use Rattle.lx_hub.specs.declared.hub.Attached.TheVariants as attached_as
use Rattle.lx_hub.specs.declared.hub.Delivery.{Delivery}
use Rattle.lx_hub.specs.declared.hub.Delivery.TheVariants.{Applied, Level, Behind}
use Rattle.lx_hub.specs.Hub.{View, Hub, effects, is_full, attached, next_view, is_numbered, view_in, changed_at, without_view, advanced, taken, taken_if, delivery_to, delivery_if, delivery, is_kept, oldest}
use Rattle.lx_hub.specs.Standing.{all_effects}
use Rattle.lx_hub.specs.Events.{Event, publish, attach, deliver, detach, hub_after, batches, tree_at, is_view, is_applied, come_to, IsAt, Lag}
use Rattle.lx_hub.proofs.Kept.{take_take, all_map, all_behind}

-- ---- numbers

abbrev HasOther : ℕ → View → Type 0
HasOther n v = eqb v.number n ≡ false

-- no two views have one number
abbrev AreApart : List View → Type 0
AreApart [] = Unit {0}
AreApart (v ∷ vs) = AllByRecursion (HasOther v.number) vs × AreApart vs

abbrev IsBelow : ℕ → View → Type 0
IsBelow made v = v.number ≤ made

-- all that is known of a hub after these events
record IsKnown (events : List Event) (h : Hub) : Type 0 where
  commits : h.commits ≡ length (batches events)
  tip : h.tip ≡ all_effects (batches events) new_tree
  kept : h.kept ≡ take 100 (batches events)
  views : AllByRecursion (IsAt events) h.views
  below : AllByRecursion (IsBelow h.made) h.views
  apart : AreApart h.views

abbrev Known : List Event → Type 0
Known events = IsKnown events (hub_after events)

-- ---- host trees of commits

last_tree : (bs : List (List Op)) → all_effects (drop (length bs - length bs) bs) new_tree ≡ all_effects bs new_tree
last_tree bs = let none : length bs - length bs ≡ 0 = omega arith in ap (λ k. all_effects (drop k bs) new_tree) none

drop_read : (bs : List (List Op)) (k : ℕ) (ops : List Op) → slice_get bs k ≡ Some ops → drop k bs ≡ ops ∷ drop (suc k) bs
drop_read [] k ops read = absurd (cc)
drop_read (b ∷ bs) zero ops read = let e : b ≡ ops = cc in ap (λ x. x ∷ bs) e
drop_read (b ∷ bs) (suc k) ops read = drop_read bs k ops read

take_get : {X : Type 0} (xs : List X) (n k : ℕ) → k < n → slice_get (take n xs) k ≡ slice_get xs k
take_get xs zero k less = absurd (omega arith)
take_get [] (suc n) k less = refl
take_get (x ∷ xs) (suc n) zero less = refl
take_get (x ∷ xs) (suc n) (suc k) less = take_get xs n k (omega arith)

take_past : {X : Type 0} (xs : List X) (n k : ℕ) → n ≤ k → slice_get (take n xs) k ≡ None
take_past xs zero k less = refl
take_past [] (suc n) k less = refl
take_past (x ∷ xs) (suc n) zero less = absurd (omega arith)
take_past (x ∷ xs) (suc n) (suc k) less = take_past xs n k (omega arith)

get_there : {X : Type 0} (xs : List X) (k : ℕ) → k < length xs → (x : X) × (slice_get xs k ≡ Some x)
get_there [] k less = absurd (omega arith)
get_there (x ∷ xs) zero less = (x, refl)
get_there (x ∷ xs) (suc k) less = get_there xs k (omega arith)

-- ---- what is published

at_published : (ops : List Op) (es : List Event) (v : View) → IsAt es v → IsAt (publish ops ∷ es) v
at_published ops es v is = record {
  within = omega (arith, is.within);
  reached = is.reached;
  tree =
      let more : suc (length (batches es)) - v.reached ≡ suc (length (batches es) - v.reached) = omega (arith, is.within) in
      is.tree ∙ sym (ap (λ k. all_effects (drop k (ops ∷ batches es)) new_tree) more);
}

known_published : (ops : List Op) (es : List Event) → Known es → Known (publish ops ∷ es)
known_published ops es k = record {
  commits = omega (arith, k.commits);
  tip = ap (effects ops) k.tip;
  kept = ap (λ l. take 100 (ops ∷ l)) k.kept ∙ ap (λ l. ops ∷ l) (take_take 99 100 (batches es) (omega arith));
  views = all_map (IsAt es) (IsAt (publish ops ∷ es)) (hub_after es).views (at_published ops es) k.views;
  below = k.below;
  apart = k.apart;
}

-- ---- what goes

all_left : (P : View → Type 0) (n : ℕ) (vs : List View) → AllByRecursion P vs → AllByRecursion P (without_view n vs)
all_left P n [] all = tt
all_left P n (v ∷ vs) all =
    elim (is_numbered n v) as (λ b. AllByRecursion P (cond b vs (v ∷ without_view n vs))) [ true ↦ all.1 | false ↦ (all.0, all_left P n vs all.1) ]

apart_left : (n : ℕ) (vs : List View) → AreApart vs → AreApart (without_view n vs)
apart_left n [] apart = tt
apart_left n (v ∷ vs) apart =
    elim (is_numbered n v) as (λ b. AreApart (cond b vs (v ∷ without_view n vs)))
    [ true ↦ apart.1 | false ↦ (all_left (HasOther v.number) n vs apart.0, apart_left n vs apart.1) ]

known_detached : (n : ℕ) (es : List Event) → Known es → Known (detach n ∷ es)
known_detached n es k = record {
  commits = k.commits;
  tip = k.tip;
  kept = k.kept;
  views = all_left (IsAt (detach n ∷ es)) n (hub_after es).views
      (all_map (IsAt es) (IsAt (detach n ∷ es)) (hub_after es).views (λ v is. record { within = is.within; reached = is.reached; tree = is.tree }) k.views);
  below = all_left (IsBelow (hub_after es).made) n (hub_after es).views k.below;
  apart = apart_left n (hub_after es).views k.apart;
}

-- ---- what comes

at_full : (es : List Event) (v : View) → is_full (hub_after es) ≡ true → IsAt es v → IsAt (attach ∷ es) v
at_full es v full is = record {
  within = is.within;
  reached =
      is.reached
      ∙ sym (ap
      (λ b. cond (is_view v.number (cond b attached_as.Full (attached_as.View ((hub_after es).made + 1)))) (hub_after es).commits (come_to v.number es)) full);
  tree = is.tree;
}

at_attached : (es : List Event) (v : View) → is_full (hub_after es) ≡ false → IsBelow (hub_after es).made v → IsAt es v → IsAt (attach ∷ es) v
at_attached es v room below is =
    let other : eqb ((hub_after es).made + 1) v.number ≡ false = grind (arith, eqb_tells ((hub_after es).made + 1) v.number) in
    record {
      within = is.within;
      reached = is.reached
          ∙ sym (ap
          (λ b. cond (is_view v.number (cond b attached_as.Full (attached_as.View ((hub_after es).made + 1)))) (hub_after es).commits (come_to v.number es))
          room
          ∙ ap (λ b. cond b (hub_after es).commits (come_to v.number es)) other);
      tree = is.tree;
    }

new_at : (es : List Event) → is_full (hub_after es) ≡ false → Known es → IsAt (attach ∷ es) (next_view (hub_after es))
new_at es room k =
    let own : eqb ((hub_after es).made + 1) ((hub_after es).made + 1) ≡ true = grind (arith, eqb_tells ((hub_after es).made + 1) ((hub_after es).made + 1)) in
    record {
      within = omega (arith, k.commits);
      reached =
          sym (ap (λ b. cond (is_view ((hub_after es).made + 1) (cond b attached_as.Full (attached_as.View ((hub_after es).made + 1)))) (hub_after es).commits
          (come_to ((hub_after es).made + 1) es)) room
          ∙ ap (λ b. cond b (hub_after es).commits (come_to ((hub_after es).made + 1) es)) own);
      tree = k.tip ∙ sym (last_tree (batches es)) ∙ ap (λ r. all_effects (drop (length (batches es) - r) (batches es)) new_tree) (sym k.commits);
    }

all_both : (P Q R : View → Type 0) (vs : List View) → ((v : View) → P v → Q v → R v) → AllByRecursion P vs → AllByRecursion Q vs → AllByRecursion R vs
all_both P Q R [] goes p q = tt
all_both P Q R (v ∷ vs) goes p q = (goes v p.0 q.0, all_both P Q R vs goes p.1 q.1)

apart_behind : (vs : List View) (made : ℕ) (w : View) → w.number ≡ made + 1 → AllByRecursion (IsBelow made) vs → AreApart vs → AreApart (vs ++ w ∷ [])
apart_behind [] made w is below apart = (tt, tt)
apart_behind (v ∷ vs) made w is below apart =
    let other : eqb w.number v.number ≡ false = grind (arith, below.0, is, eqb_tells w.number v.number) in
    (all_behind (HasOther v.number) vs w apart.0 other, apart_behind vs made w is below.1 apart.1)

-- the hub with one view more
abbrev with_next : Hub → Hub
with_next h = record h { views = h.views ++ next_view h ∷ []; made = h.made + 1 }

known_attached : (es : List Event) → Known es → Known (attach ∷ es)
known_attached es k = go (is_full (hub_after es)) refl
  where
    go : (b : Bool) → is_full (hub_after es) ≡ b → IsKnown (attach ∷ es) (attached (hub_after es))
    go true full = subst (IsKnown (attach ∷ es)) (sym (ap (λ b. cond b (hub_after es) (with_next (hub_after es))) full)) (record {
      commits = k.commits;
      tip = k.tip;
      kept = k.kept;
      views = all_map (IsAt es) (IsAt (attach ∷ es)) (hub_after es).views (λ v. at_full es v full) k.views;
      below = k.below;
      apart = k.apart;
    })
    go false room = subst (IsKnown (attach ∷ es)) (sym (ap (λ b. cond b (hub_after es) (with_next (hub_after es))) room)) (record {
      commits = k.commits;
      tip = k.tip;
      kept = k.kept;
      views = all_behind (IsAt (attach ∷ es)) (hub_after es).views (next_view (hub_after es))
          (all_both (IsBelow (hub_after es).made) (IsAt es) (IsAt (attach ∷ es)) (hub_after es).views (λ v. at_attached es v room) k.below k.views)
          (new_at es room k);
      below = all_behind (IsBelow ((hub_after es).made + 1)) (hub_after es).views (next_view (hub_after es))
          (all_map (IsBelow (hub_after es).made) (IsBelow ((hub_after es).made + 1)) (hub_after es).views (λ v below. omega (arith, below)) k.below)
          (omega arith);
      apart = apart_behind (hub_after es).views (hub_after es).made (next_view (hub_after es)) refl k.below k.apart;
    })

-- ---- deliveries

-- how far a view has come, where a delivery to this number has this answer
abbrev come_on : ℕ → ℕ → Delivery → List Event → ℕ
come_on m n answer es = if eqb m n && is_applied answer then come_to n es + 1 else come_to n es

-- a view at the commit to which it has come with such a delivery
record IsAtBy (m : ℕ) (answer : Delivery) (es : List Event) (v : View) : Type 0 where
  within : v.reached ≤ length (batches es)
  reached : v.reached ≡ come_on m v.number answer es
  tree : v.tree ≡ tree_at v.reached es

not_meant : (m : ℕ) (answer : Delivery) (es : List Event) (v : View) → eqb v.number m ≡ false → IsAt es v → IsAtBy m answer es v
not_meant m answer es v other is =
    let flipped : eqb m v.number ≡ false = grind (arith, eqb_tells m v.number, eqb_tells v.number m) in
    record {
      within = is.within;
      reached = is.reached ∙ sym (ap (λ b. cond (b && is_applied answer) (come_to v.number es + 1) (come_to v.number es)) flipped);
      tree = is.tree;
    }

-- a delivery that isn't applied leaves the view
left_at : (m : ℕ) (answer : Delivery) (es : List Event) (v : View) → is_applied answer ≡ false → IsAt es v → IsAtBy m answer es v
left_at m answer es v none is =
    let no : (eqb m v.number && is_applied answer) ≡ false = grind (arith, none) in
    record { within = is.within; reached = is.reached ∙ sym (ap (λ b. cond b (come_to v.number es + 1) (come_to v.number es)) no); tree = is.tree }

taken_at : (m : ℕ) (answer : Delivery) (es : List Event) (v : View) (ops : List Op) → eqb v.number m ≡ true → is_applied answer ≡ true
    → v.reached < length (batches es)
    → slice_get (batches es) (length (batches es) - v.reached - 1) ≡ Some ops → IsAt es v → IsAtBy m answer es (taken ops v)
taken_at m answer es v ops meant applied less read is =
    let yes : (eqb m v.number && is_applied answer) ≡ true = grind (arith, applied, meant, eqb_tells m v.number, eqb_tells v.number m) in
    let bs : List (List Op) = batches es in
    let one : length bs - (v.reached + 1) ≡ length bs - v.reached - 1 = omega arith in
    let two : suc (length bs - v.reached - 1) ≡ length bs - v.reached = omega (arith, less) in
    record {
      within = omega (arith, less);
      reached = ap (λ n. n + 1) is.reached ∙ sym (ap (λ b. cond b (come_to v.number es + 1) (come_to v.number es)) yes);
      tree = ap (effects ops) (is.tree ∙ ap (λ k. all_effects (drop k (batches es)) new_tree) (sym two))
          ∙ sym (ap (λ k. all_effects (drop k (batches es)) new_tree) one
          ∙ ap (λ l. all_effects l new_tree) (drop_read (batches es) (length (batches es) - v.reached - 1) ops read));
    }

-- the answers to a delivery, from the two tests
abbrev answer_by : Bool → Bool → ℕ → ℕ → Delivery
answer_by level kept r first = if level then Level r else (if kept then Applied (r + 1) else Behind r first)

abbrev advanced_by : Bool → Option (List Op) → View → View
advanced_by level next v = taken_if (if level then None else next) v

meant_at : (m : ℕ) (es : List Event) (v : View) → eqb v.number m ≡ true → Known es → IsAt es v
    → IsAtBy m (delivery_to (hub_after es) v) es (advanced (hub_after es) v)
meant_at m es v meant k is = go (eqb v.reached (hub_after es).commits) refl (is_kept (hub_after es) (v.reached + 1)) refl
  where
    go : (level : Bool) → eqb v.reached (hub_after es).commits ≡ level → (kept : Bool) → is_kept (hub_after es) (v.reached + 1) ≡ kept
        → IsAtBy m (delivery_to (hub_after es) v) es (advanced (hub_after es) v)
    go true level kept is_it =
        subst (λ b. IsAtBy m (answer_by b (is_kept (hub_after es) (v.reached + 1)) v.reached (oldest (hub_after es))) es
        (advanced_by b (slice_get (hub_after es).kept ((hub_after es).commits - v.reached - 1)) v)) (sym level)
        (left_at m (Level v.reached) es v refl is)
    go false behind true is_it =
        let less : v.reached < length (batches es) = grind (arith, is.within, k.commits, behind, eqb_tells v.reached (hub_after es).commits) in
        let near : (hub_after es).commits - 100 < v.reached + 1 = grind (arith, nat_tests, is_it) in
        let few : (hub_after es).commits - v.reached - 1 < 100 = omega (arith, near, less, k.commits) in
        let next = get_there (batches es) (length (batches es) - v.reached - 1) (omega (arith, less)) in
        let read : slice_get (hub_after es).kept ((hub_after es).commits - v.reached - 1) ≡ Some next.0 =
        ap (λ l. slice_get l ((hub_after es).commits - v.reached - 1)) k.kept ∙ take_get (batches es) 100 ((hub_after es).commits - v.reached - 1) few
        ∙ ap (λ n. slice_get (batches es) (n - v.reached - 1)) k.commits ∙ next.1 in
        subst (λ b. IsAtBy m (answer_by b (is_kept (hub_after es) (v.reached + 1)) v.reached (oldest (hub_after es))) es
        (advanced_by b (slice_get (hub_after es).kept ((hub_after es).commits - v.reached - 1)) v)) (sym behind)
        (subst (λ b. IsAtBy m (answer_by false b v.reached (oldest (hub_after es))) es
        (taken_if (slice_get (hub_after es).kept ((hub_after es).commits - v.reached - 1)) v)) (sym is_it)
        (subst (λ o. IsAtBy m (Applied (v.reached + 1)) es (taken_if o v)) (sym read)
        (taken_at m (Applied (v.reached + 1)) es v next.0 meant refl less next.1 is)))
    go false behind false is_it =
        let less : v.reached < length (batches es) = grind (arith, is.within, k.commits, behind, eqb_tells v.reached (hub_after es).commits) in
        let far : v.reached + 1 ≤ (hub_after es).commits - 100 = grind (arith, nat_tests, is_it) in
        let many : 100 ≤ (hub_after es).commits - v.reached - 1 = omega (arith, far, less, k.commits) in
        let read : slice_get (hub_after es).kept ((hub_after es).commits - v.reached - 1) ≡ None =
        ap (λ l. slice_get l ((hub_after es).commits - v.reached - 1)) k.kept ∙ take_past (batches es) 100 ((hub_after es).commits - v.reached - 1) many in
        subst (λ b. IsAtBy m (answer_by b (is_kept (hub_after es) (v.reached + 1)) v.reached (oldest (hub_after es))) es
        (advanced_by b (slice_get (hub_after es).kept ((hub_after es).commits - v.reached - 1)) v)) (sym behind)
        (subst (λ b. IsAtBy m (answer_by false b v.reached (oldest (hub_after es))) es
        (taken_if (slice_get (hub_after es).kept ((hub_after es).commits - v.reached - 1)) v)) (sym is_it)
        (subst (λ o. IsAtBy m (Behind v.reached (oldest (hub_after es))) es (taken_if o v)) (sym read)
        (left_at m (Behind v.reached (oldest (hub_after es))) es v refl is)))

all_delivered : (m : ℕ) (es : List Event) (vs : List View) → Known es → AllByRecursion (IsAt es) vs → AreApart vs
    → AllByRecursion (IsAtBy m (delivery_if (hub_after es) (view_in m vs)) es) (changed_at m (advanced (hub_after es)) vs)
all_delivered m es [] k all apart = tt
all_delivered m es (v ∷ vs) k all apart = go (is_numbered m v) refl (all_delivered m es vs k all.1 apart.1)
  where
    go : (b : Bool) → is_numbered m v ≡ b → AllByRecursion (IsAtBy m (delivery_if (hub_after es) (view_in m vs)) es) (changed_at m (advanced (hub_after es)) vs)
        → AllByRecursion (IsAtBy m (delivery_if (hub_after es) (cond (is_numbered m v) (Some v) (view_in m vs))) es)
        (cond (is_numbered m v) (advanced (hub_after es) v ∷ vs) (v ∷ changed_at m (advanced (hub_after es)) vs))
    go true meant later =
        subst (λ b. AllByRecursion (IsAtBy m (delivery_if (hub_after es) (cond b (Some v) (view_in m vs))) es)
        (cond b (advanced (hub_after es) v ∷ vs) (v ∷ changed_at m (advanced (hub_after es)) vs))) (sym meant) (
          meant_at m es v meant k all.0,
          all_both (HasOther v.number) (IsAt es) (IsAtBy m (delivery_to (hub_after es) v) es) vs
              (λ w other is. not_meant m (delivery_to (hub_after es) v) es w
              (grind (arith, other, meant, eqb_tells w.number v.number, eqb_tells w.number m, eqb_tells v.number m)) is) apart.0 all.1,
        )
    go false other later =
        subst (λ b. AllByRecursion (IsAtBy m (delivery_if (hub_after es) (cond b (Some v) (view_in m vs))) es)
        (cond b (advanced (hub_after es) v ∷ vs) (v ∷ changed_at m (advanced (hub_after es)) vs))) (sym other)
        (not_meant m (delivery_if (hub_after es) (view_in m vs)) es v other all.0, later)

taken_number : (o : Option (List Op)) (v : View) → (taken_if o v).number ≡ v.number
taken_number None v = refl
taken_number (Some ops) v = refl

-- a delivery leaves a view's number
same_number : (h : Hub) (v : View) → (advanced h v).number ≡ v.number
same_number h v = taken_number (if eqb v.reached h.commits then None else slice_get h.kept (h.commits - v.reached - 1)) v

numbers_stay : (P : ℕ → Type 0) (h : Hub) (m : ℕ) (vs : List View) → AllByRecursion (λ v. P v.number) vs
    → AllByRecursion (λ v. P v.number) (changed_at m (advanced h) vs)
numbers_stay P h m [] all = tt
numbers_stay P h m (v ∷ vs) all =
    elim (is_numbered m v) as (λ b. AllByRecursion (λ v. P v.number) (cond b (advanced h v ∷ vs) (v ∷ changed_at m (advanced h) vs))) [
      | true ↦ (subst P (sym (same_number h v)) all.0, all.1)
      | false ↦ (all.0, numbers_stay P h m vs all.1)
    ]

apart_stay : (h : Hub) (m : ℕ) (vs : List View) → AreApart vs → AreApart (changed_at m (advanced h) vs)
apart_stay h m [] apart = tt
apart_stay h m (v ∷ vs) apart =
    elim (is_numbered m v) as (λ b. AreApart (cond b (advanced h v ∷ vs) (v ∷ changed_at m (advanced h) vs))) [
      | true ↦ (subst (λ n. AllByRecursion (HasOther n) vs) (sym (same_number h v)) apart.0, apart.1)
      | false ↦ (numbers_stay (λ n. eqb n v.number ≡ false) h m vs apart.0, apart_stay h m vs apart.1)
    ]

known_delivered : (m : ℕ) (es : List Event) → Known es → Known (deliver m ∷ es)
known_delivered m es k = record {
  commits = k.commits;
  tip = k.tip;
  kept = k.kept;
  views = all_map (IsAtBy m (delivery m (hub_after es)) es) (IsAt (deliver m ∷ es)) (changed_at m (advanced (hub_after es)) (hub_after es).views)
      (λ v is. record { within = is.within; reached = is.reached; tree = is.tree }) (all_delivered m es (hub_after es).views k k.views k.apart);
  below = numbers_stay (λ n. n ≤ (hub_after es).made) (hub_after es) m (hub_after es).views k.below;
  apart = apart_stay (hub_after es) m (hub_after es).views k.apart;
}

-- ---- all events

known : (es : List Event) → Known es
known [] = record { commits = refl; tip = refl; kept = refl; views = tt; below = tt; apart = tt }
known (publish ops ∷ es) = known_published ops es (known es)
known (attach ∷ es) = known_attached es (known es)
known (deliver m ∷ es) = known_delivered m es (known es)
known (detach m ∷ es) = known_detached m es (known es)

pub lag : (es : List Event) → Lag es
lag es =
    let k = known es in
    record {
      commits = k.commits;
      tip = k.tip ∙ sym (last_tree (batches es));
      kept = k.kept;
      views = k.views;
      shapes = λ shape shown. all_map (IsAt es) (λ v. shape_of v.tree.hosts ≡ shape v.reached) (hub_after es).views
          (λ v is. ap (λ (t : HostTree). shape_of t.hosts) is.tree ∙ shown v.reached is.within) k.views;
    }

-- What views show, for every list of lines.
use Rattle.std.proofs.Common.{◌≡◌, ◌∙◌, ap, sym, subst, refl, inl, inr, ◌⊎◌, ℕ, zero, suc, ◌-◌, ◌≤◌, List, [], ◌∷◌, length, drop, Option, None, Some, arith}
use Rattle.std.specs.List.{AllByRecursion}
use Rattle.lx_host.specs.declared.op.Op.{Op}
use Rattle.lx_host.specs.Hosts.{HostTree, new_tree}
use Rattle.lx_node.specs.Kinds.{is_text_block}
use Rattle.lx_forest.specs.Forest.{Forest, root_alone}
use Rattle.lx_reconcile.specs.Allowed.{Shows}
use Rattle.lx_serving.specs.declared.setup.Setup.{Setup}
use Rattle.lx_serving.specs.declared.setup.Beside.TheVariants as beside
use Rattle.lx_editor.specs.Editor.{Editor}
use Rattle.lx_hub.specs.Hub.{View, Hub, effects, new_hub, published}
use Rattle.lx_hub.specs.Standing.{all_effects}
use Rattle.lx_hub.specs.Events.{Event, publish, attach, deliver, detach, hub_after, batches, IsAt, Lag}
use Rattle.lx_hub.proofs.Following.{leads_there}
use Rattle.lx_hub.proofs.Kept.{all_map}
use Rattle.lx_serving.specs.declared.asking.AboutViews.{AboutViews}
use Rattle.lx_serving.specs.declared.asking.AboutViews.TheVariants.{Attach, Deliver, Html, Detach}
use Rattle.lx_serving.specs.declared.layer.Layer.{Layer}
use Rattle.lx_serving.specs.declared.layer.Layer.TheVariants as layer
use Rattle.lx_serving.specs.Asked.{about_views as asked_about}
use Rattle.lx_serving.specs.Replies.{hub_by}
use Rattle.lx_serving.specs.Served.{Served, with_hub, new_layer, new_served, ops_told, IsFollowedBy, AnswersIn, by_editor, about_views, beside_views, about_outline, beside_outline, FollowsInTo}
use Rattle.lx_serving.specs.Shown.{LeadsThrough, SomeServed, IsOfCommit, ViewsShow}
use Rattle.lx_serving.proofs.Moving.{HasStayed, HasCommitted, Moves, moves_answers}

-- ---- lists of what was passed

-- what holds of one of these holds of one of them and another in front
some_map : (P Q : Served → Type 0) (ss : List Served) → ((s : Served) → P s → Q s) → SomeServed P ss → SomeServed Q ss
some_map P Q [] goes some = absurd some
some_map P Q (s ∷ ss) goes (inl here) = inl (goes s here)
some_map P Q (s ∷ ss) goes (inr later) = inr (some_map P Q ss goes later)

pub led : (old s : Served) (lines : List (List ℕ)) (bytes : List ℕ) (passed : List Served) → FollowsInTo old lines bytes s
    → (earlier : List Served) × LeadsThrough old lines bytes passed (s ∷ earlier)
led old s [] bytes passed p = (passed, (p.0, ap (λ (t : Served). t ∷ passed) p.1))
led old s (line ∷ lines) bytes passed p =
    let rest = led p.2 s lines p.1 (old ∷ passed) p.5 in
    (rest.0, (p.0, p.1, p.2, p.3, p.4, rest.1))

-- ---- host trees of commits

-- what the first so many batches make of a new host tree
abbrev tree_of : ℕ → List (List Op) → HostTree
tree_of n bs = all_effects (drop (length bs - n) bs) new_tree

before_last : (n : ℕ) (ops : List Op) (bs : List (List Op)) → n ≤ length bs → tree_of n (ops ∷ bs) ≡ tree_of n bs
before_last n ops bs within =
    let more : suc (length bs) - n ≡ suc (length bs - n) = omega (arith, within) in
    ap (λ k. all_effects (drop k (ops ∷ bs)) new_tree) more

last_whole : (bs : List (List Op)) → tree_of (length bs) bs ≡ all_effects bs new_tree
last_whole bs = let none : length bs - length bs ≡ 0 = omega arith in ap (λ k. all_effects (drop k bs) new_tree) none

at_last : (ops : List Op) (bs : List (List Op)) → tree_of (suc (length bs)) (ops ∷ bs) ≡ effects ops (tree_of (length bs) bs)
at_last ops bs = last_whole (ops ∷ bs) ∙ sym (ap (effects ops) (last_whole bs))

-- ---- what is known along the lines

-- So many batches made the view, which shows the tree.
record IsAtCommit (n : ℕ) (bs : List (List Op)) (s : Served) : Type 0 where
  commit : s.editor.commits ≡ n
  view : tree_of n bs ≡ s.editor.view
  shows : Shows s.editor.view s.editor.tree

-- There are as many batches as commits, the editor's view is what they make, and each commit was passed.
record IsPassed (e : Editor) (bs : List (List Op)) (all : List Served) : Type 0 where
  number : e.commits ≡ length bs
  tip : tree_of (length bs) bs ≡ e.view
  shows : Shows e.view e.tree
  each : (n : ℕ) → n ≤ length bs → SomeServed (IsAtCommit n bs) all

-- The hub is what some events made of a new one.
record IsAlong (s : Served) (passed : List Served) : Type 0 where
  hub : Hub
  beside : s.layer ≡ layer.Hub hub
  events : List Event
  made : hub ≡ hub_after events
  known : IsPassed s.editor (batches events) (s ∷ passed)

-- ---- a line about views

more_passed : (e : Editor) (bs : List (List Op)) (s : Served) (all : List Served) → IsPassed e bs all → IsPassed e bs (s ∷ all)
more_passed e bs s all known = record {
  number = known.number;
  tip = known.tip;
  shows = known.shows;
  each = λ n within. inr (known.each n within);
}

about_along : (about : Option AboutViews) (e : Editor) (h : Hub) (passed : List Served) (es : List Event)
    → h ≡ hub_after es → IsPassed e (batches es) (with_hub e h ∷ passed) → IsAlong (with_hub e (hub_by about h)) (with_hub e h ∷ passed)
about_along None e h passed es is known =
    record { hub = h; beside = refl; events = es; made = is; known = more_passed e (batches es) (with_hub e h) (with_hub e h ∷ passed) known }
about_along (Some Attach) e h passed es is known = record {
  hub = hub_by (Some Attach) h;
  beside = refl;
  events = attach ∷ es;
  made = ap (hub_by (Some Attach)) is;
  known = more_passed e (batches es) (with_hub e (hub_by (Some Attach) h)) (with_hub e h ∷ passed) known;
}
about_along (Some (Deliver view)) e h passed es is known = record {
  hub = hub_by (Some (Deliver view)) h;
  beside = refl;
  events = deliver view ∷ es;
  made = ap (hub_by (Some (Deliver view))) is;
  known = more_passed e (batches es) (with_hub e (hub_by (Some (Deliver view)) h)) (with_hub e h ∷ passed) known;
}
about_along (Some (Html view)) e h passed es is known =
    record { hub = h; beside = refl; events = es; made = is; known = more_passed e (batches es) (with_hub e h) (with_hub e h ∷ passed) known }
about_along (Some (Detach view)) e h passed es is known = record {
  hub = hub_by (Some (Detach view)) h;
  beside = refl;
  events = detach view ∷ es;
  made = ap (hub_by (Some (Detach view))) is;
  known = more_passed e (batches es) (with_hub e (hub_by (Some (Detach view)) h)) (with_hub e h ∷ passed) known;
}

-- ---- a line of the editor's

stayed_along : (old new : Editor) (h g : Hub) (passed : List Served) (es : List Event) → h ≡ hub_after es → IsPassed old (batches es) (with_hub old h ∷ passed)
    → HasStayed old.commits old.tree old.view old.last new → IsFollowedBy old new h g → IsAlong (with_hub new g) (with_hub old h ∷ passed)
stayed_along old new h g passed es is known stayed followed =
    let bs : List (List Op) = batches es in
    record {
      hub = g;
      beside = refl;
      events = es;
      made = followed.same stayed.commits ∙ is;
      known = record {
        number = stayed.commits ∙ known.number;
        tip = known.tip ∙ sym stayed.view;
        shows = subst (λ (t : HostTree). Shows t new.tree) (sym stayed.view) (subst (λ (f : Forest). Shows old.view f) (sym stayed.tree) known.shows);
        each = λ n within. inr (known.each n within);
      };
    }

up_to : (n m : ℕ) → n ≤ suc m → (n ≤ m) ⊎ (n ≡ suc m)
up_to zero m within = inl (omega arith)
up_to (suc n) zero within = inr (omega arith)
up_to (suc n) (suc m) within = elim (up_to n m (omega arith)) [ inl less ↦ inl (omega arith) | inr last ↦ inr (ap suc last) ]

-- each commit was passed, with one more
each_more : (ops : List Op) (bs : List (List Op)) (s : Served) (all : List Served) → ((n : ℕ) → n ≤ length bs → SomeServed (IsAtCommit n bs) all)
    → IsAtCommit (suc (length bs)) (ops ∷ bs) s → (n : ℕ) → (n ≤ length bs) ⊎ (n ≡ suc (length bs)) → SomeServed (IsAtCommit n (ops ∷ bs)) (s ∷ all)
each_more ops bs s all each here n (inl less) =
    inr (some_map (IsAtCommit n bs) (IsAtCommit n (ops ∷ bs)) all
    (λ t at. record { commit = at.commit; view = before_last n ops bs less ∙ at.view; shows = at.shows }) (each n less))
each_more ops bs s all each here n (inr last) = inl (subst (λ (m : ℕ). IsAtCommit m (ops ∷ bs) s) (sym last) here)

committed_along : (old new : Editor) (h g : Hub) (passed : List Served) (es : List Event) → h ≡ hub_after es
    → IsPassed old (batches es) (with_hub old h ∷ passed)
    → HasCommitted old.commits old.view new → IsFollowedBy old new h g → IsAlong (with_hub new g) (with_hub old h ∷ passed)
committed_along old new h g passed es is known committed followed =
    let ops : List Op = committed.told.ops in
    let told : ops_told new.last ≡ ops = ap ops_told committed.last in
    let number : new.commits ≡ suc (length (batches es)) = omega (arith, committed.number, known.number) in
    let tip : tree_of (suc (length (batches es))) (ops ∷ batches es) ≡ new.view =
    at_last ops (batches es) ∙ ap (effects ops) known.tip ∙ sym (leads_there ops old.view new.view committed.leads) in
    let here : IsAtCommit (suc (length (batches es))) (ops ∷ batches es) (with_hub new g) = record { commit = number; view = tip; shows = committed.shows } in
    record {
      hub = g;
      beside = refl;
      events = publish ops ∷ es;
      made = followed.published committed.number ∙ ap (λ l. published l h) told ∙ ap (published ops) is;
      known = record {
        number = number;
        tip = tip;
        shows = committed.shows;
        each = λ n within. each_more ops (batches es) (with_hub new g) (with_hub old h ∷ passed) known.each here n (up_to n (length (batches es)) within);
      };
    }

moved_along : (old new : Editor) (h g : Hub) (passed : List Served) (es : List Event) → h ≡ hub_after es → IsPassed old (batches es) (with_hub old h ∷ passed)
    → Moves old.commits old.tree old.view old.last new → IsFollowedBy old new h g → IsAlong (with_hub new g) (with_hub old h ∷ passed)
moved_along old new h g passed es is known (inl stayed) followed = stayed_along old new h g passed es is known stayed followed
moved_along old new h g passed es is known (inr committed) followed = committed_along old new h g passed es is known committed followed

-- ---- all lines

step : (s t : Served) (line bytes : List ℕ) (passed : List Served) → AnswersIn s line bytes t → IsAlong s passed → IsAlong t (s ∷ passed)
step _ _ _ _ passed (by_editor old new line bytes answers) along = absurd (let no : layer.Plain ≡ layer.Hub along.hub = along.beside in cc)
step _ _ _ _ passed (about_views e h line asked own) along =
    let same : h ≡ along.hub = let is : layer.Hub h ≡ layer.Hub along.hub = along.beside in cc in
    about_along (asked_about asked) e h passed along.events (same ∙ along.made) along.known
step _ _ _ _ passed (about_outline e o line asked own) along = absurd (let no : layer.Outline o ≡ layer.Hub along.hub = along.beside in cc)
step _ _ _ _ passed (beside_outline old new o p line bytes other answers noted) along =
    absurd (let no : layer.Outline o ≡ layer.Hub along.hub = along.beside in cc)
step _ _ _ _ passed (beside_views old new h g line bytes other answers followed) along =
    let same : h ≡ along.hub = let is : layer.Hub h ≡ layer.Hub along.hub = along.beside in cc in
    moved_along old new h g passed along.events (same ∙ along.made) along.known (moves_answers old line bytes new answers) followed

-- Along all lines, and what was passed is what they lead through.
all_steps : (old : Served) (lines : List (List ℕ)) (bytes : List ℕ) (passed : List Served) (s : Served) (earlier : List Served)
    → LeadsThrough old lines bytes passed (s ∷ earlier) → IsAlong old passed → IsAlong s earlier
all_steps old [] bytes passed s earlier p along =
    let head : s ≡ old = let is : s ∷ earlier ≡ old ∷ passed = p.1 in cc in
    let tail : earlier ≡ passed = let is : s ∷ earlier ≡ old ∷ passed = p.1 in cc in
    subst (λ (t : Served). IsAlong t earlier) (sym head) (subst (λ (l : List Served). IsAlong old l) (sym tail) along)
all_steps old (line ∷ lines) bytes passed s earlier p along =
    all_steps p.2 lines p.1 (old ∷ passed) s earlier p.5 (step old p.2 line p.0 passed p.3 along)

-- a new host tree shows the root alone
root_shown : Shows new_tree root_alone
unfolding is_text_block
root_shown = refl

-- before the first line
begin : (setup : Setup) → setup.beside ≡ beside.Hub → IsAlong (new_served setup) []
begin setup is = record {
  hub = new_hub;
  beside = ap new_layer is;
  events = [];
  made = refl;
  known = record {
    number = refl;
    tip = refl;
    shows = root_shown;
    each = λ n within. inl
        (record { commit = omega (arith, within); view = let none : n ≡ 0 = omega (arith, within) in ap (λ k. tree_of k []) none; shows = root_shown });
  };
}

of_commit : (v : View) (es : List Event) (all : List Served) → IsAt es v → ((n : ℕ) → n ≤ length (batches es) → SomeServed (IsAtCommit n (batches es)) all)
    → SomeServed (IsOfCommit v) all
of_commit v es all at each =
    some_map (IsAtCommit v.reached (batches es)) (IsOfCommit v) all
    (λ t there. record {
      commit = there.commit;
      view = at.tree ∙ there.view;
      shows = subst (λ (w : HostTree). Shows w t.editor.tree) (sym (at.tree ∙ there.view)) there.shows;
    })
    (each v.reached at.within)

views_of : (l : Layer) (h : Hub) (all : List Served) → l ≡ layer.Hub h → AllByRecursion (λ (v : View). SomeServed (IsOfCommit v) all) h.views → ViewsShow all l
views_of l h all is each = subst (λ (k : Layer). ViewsShow all k) (sym is) each

shown_along : ((es : List Event) → Lag es) → (s : Served) (earlier : List Served) → IsAlong s earlier → ViewsShow (s ∷ earlier) s.layer
shown_along lag s earlier along =
    let es : List Event = along.events in
    let all : List Served = s ∷ earlier in
    let each : AllByRecursion (IsAt es) (hub_after es).views = (lag es).views in
    let shown : AllByRecursion (λ (v : View). SomeServed (IsOfCommit v) all) (hub_after es).views =
    all_map (IsAt es) (λ (v : View). SomeServed (IsOfCommit v) all) (hub_after es).views (λ v at. of_commit v es all at along.known.each) each in
    views_of s.layer along.hub all along.beside
    (subst (λ (h : Hub). AllByRecursion (λ (v : View). SomeServed (IsOfCommit v) all) h.views) (sym along.made) shown)

pub shown : ((es : List Event) → Lag es) → (setup : Setup) (lines : List (List ℕ)) (bytes : List ℕ) (s : Served) (earlier : List Served)
    → setup.beside ≡ beside.Hub → LeadsThrough (new_served setup) lines bytes [] (s ∷ earlier) → ViewsShow (s ∷ earlier) s.layer
shown lag setup lines bytes s earlier is p =
    shown_along lag s earlier (all_steps (new_served setup) lines bytes [] s earlier p (begin setup is))

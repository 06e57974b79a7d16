-- The least id of a table that passes a test, and the host of a key.
use Rattle.std.proofs.Common.{ℕ, zero, suc, ◌+◌, drop, slice_get, ◌≡◌, Bool, true, false, cond, eqb, ◌&&◌, ◌||◌, List, [], ◌∷◌, Option, None, Some, is_some, refl, sym, ap, ◌∙◌, subst, arith, inl, inr}
use Rattle.std.proofs.lemmas.Bool.{cases_Bool}
use Rattle.std.proofs.lemmas.Bool.Decides.{eqb_tells}
use Rattle.lx_trees.specs.Trees.{Trees, nil, tree}
use Rattle.lx_trees.specs.NamedTrees.{gathered}
use Rattle.lx_trees.specs.Siblings.{is_among, is_named}
use Rattle.lx_trees.specs.Spots.{Spot, spot}
use Rattle.lx_trees.proofs.NamedTrees.{count-without, count-without-alone}
use Rattle.lx_trees.proofs.Subtrees.{count-alone-le}
use Rattle.lx_host.specs.Hosts.{Host, id_of, count, has, alone, without}
use Rattle.lx_host.specs.Html.{first_tree}
use Rattle.lx_host.specs.Least.{passing, least_in, shows_attached}
use Rattle.lx_host.specs.Lookups.{lesser, host_of}
use Rattle.lx_host.specs.Weights.{weighed, shows_at, is_shown, key_at, IsLeast}
use Rattle.lx_host.proofs.Weights.{weighed-without-alone, shown_counted, first_alone, least_unique, least_either, least_host_of}
use Rattle.lx_trees.specs.Lookups.{IsOrdered, is_attached}
use Rattle.lx_trees.proofs.Edits.{is_some-spot, key-spot}
use Rattle.lx_trees.proofs.Lookups.{alone-spot}

-- ---- in a list

pub lesser-assoc : (a b c : Option ℕ) → lesser (lesser a b) c ≡ lesser a (lesser b c)
lesser-assoc None b c = refl
lesser-assoc (Some n) None c = refl
lesser-assoc (Some n) (Some m) None = refl
lesser-assoc (Some n) (Some m) (Some k) = ap (λ x. Some x) (omega arith)

pub lesser-None : (a : Option ℕ) → lesser a None ≡ a
lesser-None None = refl
lesser-None (Some n) = refl

one : (test : ℕ → Bool) (id : ℕ) → IsLeast (λ q. eqb id q && test q) (passing test (Some id))
one test id = by (test id) refl where
  by : (b : Bool) → test id ≡ b → IsLeast (λ q. eqb id q && test q) (cond b (Some id) None)
  by true e = (grind (arith, e, eqb_tells id id), λ q t. grind (arith, t, eqb_tells id q))
  by false e = λ q. elim (eqb_tells id q) [
    | inl here ↦ ap (λ x. eqb id q && test x) (sym here.1) ∙ rw (here.0, e) refl
    | inr other ↦ rw other.0 refl
  ]

least_like : (p r : ℕ → Bool) → ((x : ℕ) → p x ≡ r x) → (o : Option ℕ) → IsLeast p o → IsLeast r o
least_like p r e None h = λ x. sym (e x) ∙ h x
least_like p r e (Some m) h = (sym (e m) ∙ h.0, λ x t. h.1 x (e x ∙ t))

split_test : (b c t : Bool) → ((b || c) && t) ≡ ((b && t) || (c && t))
split_test true true true = refl
split_test true true false = refl
split_test true false true = refl
split_test true false false = refl
split_test false c t = refl

pub least_any : (test : ℕ → Bool) (ids : List ℕ) → IsLeast (λ q. is_among q ids && test q) (least_in test ids)
least_any test [] = λ q. refl
least_any test (id ∷ ids) =
    least_either (λ q. eqb id q && test q) (λ q. is_among q ids && test q) (λ q. is_among q (id ∷ ids) && test q) (passing test (Some id)) (least_in test ids)
    (one test id) (least_any test ids) (λ q. split_test (eqb id q) (is_among q ids) (test q))

drop_nil : (i : ℕ) → drop {A = ℕ} i [] ≡ []
drop_nil zero = refl
drop_nil (suc i) = refl

pub least_step : (test : ℕ → Bool) (i : ℕ) (ids : List ℕ) (o : Option ℕ)
    → lesser (lesser o (passing test (slice_get ids i))) (least_in test (drop (i + 1) ids)) ≡ lesser o (least_in test (drop i ids))
least_step test i ids o = lesser-assoc o (passing test (slice_get ids i)) (least_in test (drop (i + 1) ids)) ∙ ap (lesser o) (here i ids) where
  here : (i : ℕ) (ids : List ℕ) → lesser (passing test (slice_get ids i)) (least_in test (drop (i + 1) ids)) ≡ least_in test (drop i ids)
  here i [] = rw (drop_nil (i + 1), drop_nil i) refl
  here zero (id ∷ ids) = refl
  here (suc i) (id ∷ ids) = let s : suc (i + 1) ≡ suc i + 1 = omega arith in let P : ℕ → Type 0 =
      λ n. lesser (passing test (slice_get ids i)) (least_in test (drop n (id ∷ ids))) ≡ least_in test (drop i ids) in subst P s (here i ids)

-- ---- of a key

-- whether the one host of an id shows the key
shown_spot : (key q : ℕ) (f : Trees Host) → IsOrdered id_of f → weighed (shows_at key q) f ≡ cond (is_named (key_at f q) key) 1 0
shown_spot key q f h = by (spot id_of f q) refl where
  rest : weighed (shows_at key q) (without q f) ≡ 0
  rest = omega (arith, shown_counted key q (without q f), count-without id_of q f)

  by : (o : Option (Spot Host)) → spot id_of f q ≡ o → weighed (shows_at key q) f ≡ cond (is_named (key_at f q) key) 1 0
  by None at = rw at (omega (arith, shown_counted key q f, absent)) where
    absent : count q f ≡ 0
    absent = grind (arith, ap is_some at, is_some-spot id_of f q)
  by (Some s) at = rw at (omega (arith, weighed-without-alone (shows_at key q) id_of q f, rest, own)) where
    whole : alone q f ≡ tree s.label (gathered id_of f s.children) nil
    whole = alone-spot id_of f q s h at

    few : weighed (shows_at key q) (gathered id_of f s.children) ≡ 0
    few = grind
        (arith, key-spot id_of f q s at, eqb_tells q q, ap (count q) whole, count-alone-le id_of q q f, h.once q, shown_counted key q (gathered id_of f s.children))

    own : weighed (shows_at key q) (alone q f) ≡ cond (eqb key s.label.face.key) 1 0
    own = ap (weighed (shows_at key q)) whole
        ∙ grind (arith, few, key-spot id_of f q s at, eqb_tells q q, eqb_tells key s.label.face.key, eqb_tells s.label.face.key key)

is_shown-attached : (key q : ℕ) (f : Trees Host) → IsOrdered id_of f → is_shown key (alone 0 f) q ≡ shows_attached key f q
is_shown-attached key q f h =
    let all : weighed (shows_at key q) (without 0 f) + weighed (shows_at key q) (alone 0 f) ≡ weighed (shows_at key q) f =
    weighed-without-alone (shows_at key q) id_of 0 f in
    let at = shown_spot key q f h in
    elim (cases_Bool (is_attached id_of f q)) [
      | inl inside ↦
          let gone : weighed (shows_at key q) (without 0 f) ≡ 0 =
          grind (arith, inside, shown_counted key q (without 0 f), count-without-alone id_of q 0 f, h.once q) in
          rw (inside) (by (is_named (key_at f q) key) (omega (arith, all, at, gone)))
      | inr outside ↦
          let none : weighed (shows_at key q) (alone 0 f) ≡ 0 = grind (arith, outside, shown_counted key q (alone 0 f)) in
          rw (outside, none) (no (is_named (key_at f q) key))
    ]
  where
    by : (b : Bool) → weighed (shows_at key q) (alone 0 f) ≡ cond b 1 0 → is_shown key (alone 0 f) q ≡ (b && true)
    by true e = rw e refl
    by false e = rw e refl

    no : (b : Bool) → false ≡ (b && false)
    no true = refl
    no false = refl

has_attached : (key q : ℕ) (f : Trees Host) → shows_attached key f q ≡ true → has q f ≡ true
has_attached key q f e = grind (arith, e, count-alone-le id_of q 0 f, cases_Bool (is_named (key_at f q) key))

-- the least id of all that are attached and show the key is the host of the key
pub least_host : (key : ℕ) (f : Trees Host) (ids : List ℕ) → IsOrdered id_of f → ((q : ℕ) → is_among q ids ≡ has q f)
    → least_in (shows_attached key f) ids ≡ host_of key (first_tree f)
least_host key f ids h all =
    least_unique (is_shown key (alone 0 f)) _ _ (least_like _ _ same (least_in (shows_attached key f) ids) (least_any (shows_attached key f) ids))
    (least_host_of key (alone 0 f))
    ∙ sym (ap (host_of key) (first_alone f h))
  where
    both : (b c : Bool) → (c ≡ true → b ≡ true) → (b && c) ≡ c
    both true c e = refl
    both false true e = e refl
    both false false e = refl

    same : (q : ℕ) → (is_among q ids && shows_attached key f q) ≡ is_shown key (alone 0 f) q
    same q = both (is_among q ids) (shows_attached key f q) (λ e. all q ∙ has_attached key q f e) ∙ sym (is_shown-attached key q f h)

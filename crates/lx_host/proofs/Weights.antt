-- How many hosts show a key after edits, and that a key which one host shows is that host's alone.
use Rattle.std.proofs.Common.{ℕ, ◌≡◌, ◌+◌, ◌≤◌, Bool, true, false, cond, eqb, ltb, ◌||◌, Option, None, Some, refl, ap, ◌∙◌, arith, inl, inr}
use Rattle.std.proofs.lemmas.Bool.{cases_Bool, cases_lt}
use Rattle.std.proofs.lemmas.Bool.Decides.{eqb_tells, nat_tests}
use Rattle.lx_trees.specs.Trees.{Trees, nil, tree, joined}
use Rattle.lx_trees.specs.NamedTrees as named
use Rattle.lx_trees.proofs.NamedTrees.{count-without-alone, alone-absent}
use Rattle.lx_host.specs.Hosts.{Host, shape_of, id_of, count, alone, without}
use Rattle.lx_host.specs.Html.{first_tree}
use Rattle.lx_host.specs.Lookups.{lesser, host_of}
use Rattle.lx_trees.specs.Lookups.{IsOrdered, is_attached}
use Rattle.lx_host.specs.Weights.{weighed, shows, id_shown, shows_at, shown, ids_shown, is_shown, IsLeast}

-- ---- weights

module _ {A : Type 0} (w : A → ℕ) where
  pub weighed-joined : (s t : Trees A) → weighed w (joined s t) ≡ weighed w s + weighed w t
  weighed-joined nil t = omega arith
  weighed-joined (tree a below rest) t = omega (arith, weighed-joined rest t)

  pub weighed-mapped : (g : A → A) → ((a : A) → w (g a) ≡ w a) → (t : Trees A) → weighed w (named.mapped g t) ≡ weighed w t
  weighed-mapped g same nil = refl
  weighed-mapped g same (tree a below rest) = omega (arith, same a, weighed-mapped g same below, weighed-mapped g same rest)

  module _ (name : A → ℕ) where
    pub weighed-without-alone : (k : ℕ) (t : Trees A) → weighed w (named.without name k t) + weighed w (named.alone name k t) ≡ weighed w t
    weighed-without-alone k nil = refl
    weighed-without-alone k (tree a below rest) =
        grind (arith, weighed-without-alone k below, weighed-without-alone k rest, weighed-joined (named.alone name k below) (named.alone name k rest))

    pub weighed-inserted : (before : Option ℕ) (new t : Trees A) → weighed w (named.inserted name before new t) ≡ weighed w new + weighed w t
    weighed-inserted before new nil = omega arith
    weighed-inserted before new (tree a below rest) =
        grind (arith, weighed-inserted before new rest, weighed-joined new (tree a below rest))

    put_nowhere : (p : ℕ) (before : Option ℕ) (new t : Trees A) → named.count name p t ≡ 0 → weighed w (named.put_below name p before new t) ≡ weighed w t
    put_nowhere p before new nil e = refl
    put_nowhere p before new (tree a below rest) e = grind (arith, eqb_tells (name a) p, put_nowhere p before new below, put_nowhere p before new rest)

    pub weighed-put_below : (p : ℕ) (before : Option ℕ) (new t : Trees A) → named.count name p t ≡ 1
        → weighed w (named.put_below name p before new t) ≡ weighed w new + weighed w t
    weighed-put_below p before new nil e = cc
    weighed-put_below p before new (tree a below rest) e =
        grind (arith, eqb_tells (name a) p, weighed-inserted before new below, weighed-put_below p before new below, weighed-put_below p before new rest, put_nowhere p before new below, put_nowhere p before new rest)

-- ---- the least

pub least_unique : (test : ℕ → Bool) (o r : Option ℕ) → IsLeast test o → IsLeast test r → o ≡ r
least_unique test None None h k = refl
least_unique test None (Some m) h k = absurd (grind (arith, h m, k.0))
least_unique test (Some n) None h k = absurd (grind (arith, k n, h.0))
least_unique test (Some n) (Some m) h k = let same : n ≡ m = omega (arith, h.1 m k.0, k.1 n h.0) in ap (λ x. Some x) same

pub least_either : (p q r : ℕ → Bool) (a b : Option ℕ) → IsLeast p a → IsLeast q b → ((x : ℕ) → r x ≡ (p x || q x)) → IsLeast r (lesser a b)
least_either p q r None None h k e = λ x. grind (arith, h x, k x, e x)
least_either p q r None (Some m) h k e = (grind (arith, k.0, e m, cases_Bool (p m)), λ x t. grind (arith, h x, k.1 x, e x, t))
least_either p q r (Some n) None h k e = (grind (arith, h.0, e n), λ x t. grind (arith, h.1 x, k x, e x, t))
least_either p q r (Some n) (Some m) h k e = (
  elim (cases_lt n m) [ inl l ↦ grind (arith, l, h.0, e n) | inr g ↦ grind (arith, g, k.0, e m, cases_Bool (p m)) ],
  λ x t. grind (arith, h.1 x, k.1 x, e x, t, cases_Bool (p x)),
)

one_least : (key : ℕ) (host : Host) → IsLeast (λ q. ltb 0 (shows_at key q host)) (cond (eqb host.face.key key) (Some host.id) None)
one_least key host = by (eqb host.face.key key) refl where
  by : (b : Bool) → eqb host.face.key key ≡ b → IsLeast (λ q. ltb 0 (shows_at key q host)) (cond b (Some host.id) None)
  by true e = (grind (arith, e, eqb_tells host.id host.id), λ q t. grind (arith, t, eqb_tells host.id q))
  by false e = λ q. grind (arith, e)

pub least_host_of : (key : ℕ) (t : Trees Host) → IsLeast (is_shown key t) (host_of key t)
least_host_of key nil = λ q. refl
least_host_of key (tree host below rest) =
    least_either (λ q. ltb 0 (shows_at key q host)) (λ q. is_shown key below q || is_shown key rest q) (is_shown key (tree host below rest)) _
    (lesser (host_of key below) (host_of key rest))
    (one_least key host)
    (least_either (is_shown key below) (is_shown key rest) (λ q. is_shown key below q || is_shown key rest q) (host_of key below) (host_of key rest)
    (least_host_of key below) (least_host_of key rest) (λ q. refl))
    (λ q. grind (arith, nat_tests))

-- ---- a key that one host shows

pub none_shown : (key q : ℕ) (t : Trees Host) → shown key t ≡ 0 → (weighed (shows_at key q) t ≡ 0) × (ids_shown key t ≡ 0)
none_shown key q nil e = (refl, refl)
none_shown key q (tree host below rest) e =
    let b = none_shown key q below (omega arith) in
    let r = none_shown key q rest (omega arith) in
    (grind (arith, e, b.0, r.0), grind (arith, e, b.1, r.1))

pub one_shown : (key q : ℕ) (t : Trees Host) → shown key t ≡ 1 → weighed (shows_at key q) t ≡ cond (eqb q (ids_shown key t)) 1 0
one_shown key q nil e = cc
one_shown key q (tree host below rest) e =
    grind (arith, e, one_shown key q below, one_shown key q rest, none_shown key q below, none_shown key q rest, eqb_tells host.id q, eqb_tells q host.id)

pub shown_counted : (key q : ℕ) (t : Trees Host) → weighed (shows_at key q) t ≤ count q t
shown_counted key q nil = omega arith
shown_counted key q (tree host below rest) = grind (arith, shown_counted key q below, shown_counted key q rest)

pub first_alone : (f : Trees Host) → IsOrdered id_of f → first_tree f ≡ alone 0 f
first_alone nil h = refl
first_alone (tree host below rest) h = grind (arith, h.once 0, h.rising, eqb_tells host.id 0, alone-absent id_of 0 rest)

pub first_shape : (f : Trees Host) → first_tree (shape_of f) ≡ shape_of (first_tree f)
first_shape nil = refl
first_shape (tree host below rest) = refl

in_first : (key n : ℕ) (f : Trees Host) → IsOrdered id_of f → shown key (alone 0 f) ≡ 1 → ids_shown key (alone 0 f) ≡ n
    → IsLeast (is_shown key (alone 0 f)) (cond (is_attached id_of f n) (Some n) None)
in_first key n f h one ids =
    let there : weighed (shows_at key n) (alone 0 f) ≡ 1 = one_shown key n (alone 0 f) one ∙ grind (arith, ids, eqb_tells n (ids_shown key (alone 0 f))) in
    let attached : is_attached id_of f n ≡ true = grind (arith, there, shown_counted key n (alone 0 f)) in
    rw attached (grind (arith, there), λ q t. grind (arith, t, ids, one_shown key q (alone 0 f) one, eqb_tells q (ids_shown key (alone 0 f))))

out_of_first : (key n : ℕ) (f : Trees Host) → IsOrdered id_of f → shown key (alone 0 f) ≡ 0 → shown key (without 0 f) ≡ 1 → ids_shown key (without 0 f) ≡ n
    → IsLeast (is_shown key (alone 0 f)) (cond (is_attached id_of f n) (Some n) None)
out_of_first key n f h none one ids =
    let there : weighed (shows_at key n) (without 0 f) ≡ 1 =
    one_shown key n (without 0 f) one ∙ grind (arith, ids, eqb_tells n (ids_shown key (without 0 f))) in
    let away : is_attached id_of f n ≡ false = grind (arith, there, shown_counted key n (without 0 f), count-without-alone id_of n 0 f, h.once n) in
    rw away (λ q. grind (arith, none_shown key q (alone 0 f) none))

-- where one host shows the key, it is the one of the sum of the ids
pub only_host : (key n : ℕ) (f : Trees Host) → IsOrdered id_of f → shown key f ≡ 1 → ids_shown key f ≡ n
    → host_of key (first_tree f) ≡ cond (is_attached id_of f n) (Some n) None
only_host key n f h one ids =
    let split : shown key (without 0 f) + shown key (alone 0 f) ≡ shown key f = weighed-without-alone (shows key) id_of 0 f in
    let sums : ids_shown key (without 0 f) + ids_shown key (alone 0 f) ≡ ids_shown key f = weighed-without-alone (id_shown key) id_of 0 f in
    ap (host_of key) (first_alone f h)
    ∙ least_unique (is_shown key (alone 0 f)) _ _ (least_host_of key (alone 0 f))
    (elim (cases_lt 0 (shown key (alone 0 f))) [
      | inl inside ↦
          in_first key n f h (omega (arith, split, one, inside))
          (omega (arith, sums, ids, (none_shown key 0 (without 0 f) (omega (arith, split, one, inside))).1))
      | inr outside ↦
          out_of_first key n f h (omega (arith, outside)) (omega (arith, split, one, outside))
          (omega (arith, sums, ids, (none_shown key 0 (alone 0 f) (omega (arith, outside))).1))
    ])

-- where none shows it, there is none
pub no_host : (key : ℕ) (f : Trees Host) → IsOrdered id_of f → shown key f ≡ 0 → host_of key (first_tree f) ≡ None
no_host key f h none =
    ap (host_of key) (first_alone f h)
    ∙ least_unique (is_shown key (alone 0 f)) _ None (least_host_of key (alone 0 f))
    (λ q. grind (arith, none_shown key q (alone 0 f), weighed-without-alone (shows key) id_of 0 f, none))

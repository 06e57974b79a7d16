-- The trees of some keys, one after another: what is read of them, and what edits make of them.
use Rattle.std.proofs.Common.{◌≡◌, ◌≢◌, ◌∙◌, ◌+◌, ◌<◌, ◌≤◌, ℕ, true, false, cond, eqb, List, [], ◌∷◌, map, Option, option_map, refl, sym, ap, arith, ne_eqb, eq-eqb}
use Rattle.std.proofs.lemmas.Bool.Decides.{eqb_tells}
use Rattle.lx_trees.specs.Trees.{Trees, nil, tree, joined}
use Rattle.lx_trees.specs.Siblings.{is_among, is_named, NoRepeats, names_without, names_with}
use Rattle.lx_host.specs.Hosts.{Host, count, without, alone, ids_of, inserted}
use Rattle.lx_host.proofs.Laws.{joined-nil, count-joined, without-joined, alone-joined, without-absent, alone-absent}
use Rattle.lx_reconcile.specs.Reconciled.{replaced, flat, IsAt}
use Rattle.lx_reconcile.proofs.Frames.{replaced-joined, replaced-absent}

-- a function with another value at one key
abbrev pub with_entry : {A : Type 0} → ℕ → A → (ℕ → A) → ℕ → A
with_entry k a entries = λ c. cond (eqb c k) a (entries c)

-- each of these keys has one tree, whose host has its id
abbrev pub AreAt : (ℕ → ℕ) → (ℕ → Trees Host) → List ℕ → Type 0
AreAt ids family cs = (c : ℕ) → is_among c cs ≡ true → IsAt (ids c) (family c)

pub among_first : (k : ℕ) (ks : List ℕ) → is_among k (k ∷ ks) ≡ true
among_first k ks = grind (arith, eqb_tells k k)

pub among_rest : (c k : ℕ) (ks : List ℕ) → is_among c ks ≡ true → is_among c (k ∷ ks) ≡ true
among_rest c k ks e = grind (arith, e)

-- ---- one tree

pub count-at : (h : ℕ) (t : Trees Host) → IsAt h t → 0 < count h t
count-at h t at = rw at.is (rw (eq-eqb at.host.id h at.id) (omega arith))

pub alone-at : (h : ℕ) (t : Trees Host) → IsAt h t → alone h t ≡ t
alone-at h t at = rw at.is (rw (eq-eqb at.host.id h at.id) refl)

pub without-at : (h : ℕ) (t : Trees Host) → IsAt h t → without h t ≡ nil
without-at h t at = rw at.is (rw (eq-eqb at.host.id h at.id) refl)

pub replaced-at : (h : ℕ) (new t : Trees Host) → IsAt h t → replaced h new t ≡ new
replaced-at h new t at = rw at.is (rw (eq-eqb at.host.id h at.id) (joined-nil new))

pub ids_of-at : (h : ℕ) (t rest : Trees Host) → IsAt h t → ids_of (joined t rest) ≡ h ∷ ids_of rest
ids_of-at h t rest at = rw at.is (ap (λ i. i ∷ ids_of rest) at.id)

-- ---- what is read of a family

pub ids_of-flat : (ids : ℕ → ℕ) (family : ℕ → Trees Host) (cs : List ℕ) → AreAt ids family cs → ids_of (flat family cs) ≡ map ids cs
ids_of-flat ids family [] at = refl
ids_of-flat ids family (k ∷ ks) at =
    ids_of-at (ids k) (family k) (flat family ks) (at k (among_first k ks))
    ∙ ap (λ xs. ids k ∷ xs) (ids_of-flat ids family ks (λ c e. at c (among_rest c k ks e)))

pub count-flat : (q c : ℕ) (family : ℕ → Trees Host) (cs : List ℕ) → is_among c cs ≡ true → count q (family c) ≤ count q (flat family cs)
count-flat q c family [] e = absurd (cc)
count-flat q c family (k ∷ ks) e =
    grind (arith, e, eqb_tells k c, count-joined q (family k) (flat family ks), count-flat q c family ks)

pub count-flat_both : (q c d : ℕ) (family : ℕ → Trees Host) (cs : List ℕ) → c ≢ d → is_among c cs ≡ true → is_among d cs ≡ true
    → count q (family c) + count q (family d) ≤ count q (flat family cs)
count-flat_both q c d family [] other e f = absurd (cc)
count-flat_both q c d family (k ∷ ks) other e f =
    grind (
      arith,
      other,
      e,
      f,
      eqb_tells k c,
      eqb_tells k d,
      count-joined q (family k) (flat family ks),
      count-flat q c family ks,
      count-flat q d family ks,
      count-flat_both q c d family ks other,
    )

-- ---- which tree has which id

-- no other tree of the family has the id of this key
abbrev pub StandsApart : (ℕ → ℕ) → (ℕ → Trees Host) → List ℕ → ℕ → Type 0
StandsApart ids family cs c = (d : ℕ) → is_among d cs ≡ true → d ≢ c → count (ids c) (family d) ≡ 0

pub stands_apart : (ids : ℕ → ℕ) (family : ℕ → Trees Host) (cs : List ℕ) (c : ℕ) → AreAt ids family cs → ((q : ℕ) → count q (flat family cs) < 2)
    → is_among c cs ≡ true → StandsApart ids family cs c
stands_apart ids family cs c at once here d there other =
    omega (arith, once (ids c), count-at (ids c) (family c) (at c here), count-flat_both (ids c) c d family cs (λ e. other (sym e)) here there)

pub other_id : (ids : ℕ → ℕ) (family : ℕ → Trees Host) (cs : List ℕ) (c d : ℕ) → AreAt ids family cs → StandsApart ids family cs c → is_among d cs ≡ true
    → d ≢ c → ids d ≢ ids c
other_id ids family cs c d at apart there other e =
    omega (arith, apart d there other, count-at (ids d) (family d) (at d there), ap (λ i. count i (family d)) e)

pub is_among-ids : (ids : ℕ → ℕ) (c : ℕ) (cs : List ℕ) → is_among c cs ≡ true → is_among (ids c) (map ids cs) ≡ true
is_among-ids ids c [] e = absurd (cc)
is_among-ids ids c (k ∷ ks) e = grind (arith, e, eqb_tells k c, eqb_tells (ids k) (ids c), is_among-ids ids c ks)

-- ---- edits

pub without-flat : (ids : ℕ → ℕ) (family : ℕ → Trees Host) (cs : List ℕ) (c : ℕ) → AreAt ids family cs → StandsApart ids family cs c
    → without (ids c) (flat family cs) ≡ flat family (names_without c cs)
without-flat ids family [] c at apart = refl
without-flat ids family (k ∷ ks) c at apart =
    grind (
      arith,
      eqb_tells k c,
      without-joined (ids c) (family k) (flat family ks),
      without-flat ids family ks c (λ d e. at d (among_rest d k ks e)) (λ d e. apart d (among_rest d k ks e)),
      without-at (ids k) (family k) (at k (among_first k ks)),
      without-absent (ids c) (family k),
      apart k (among_first k ks),
    )

-- families that agree on these keys
pub flat-agree : (family others : ℕ → Trees Host) (cs : List ℕ) → ((c : ℕ) → is_among c cs ≡ true → family c ≡ others c) → flat family cs ≡ flat others cs
flat-agree family others [] same = refl
flat-agree family others (k ∷ ks) same =
    ap (λ t. joined t (flat family ks)) (same k (among_first k ks))
    ∙ ap (joined (others k)) (flat-agree family others ks (λ c e. same c (among_rest c k ks e)))

pub with_entry-same : {A : Type 0} (k : ℕ) (a : A) (entries : ℕ → A) → with_entry k a entries k ≡ a
with_entry-same k a entries = rw (eq-eqb k k refl) refl

pub with_entry-other : {A : Type 0} (k : ℕ) (a : A) (entries : ℕ → A) (c : ℕ) → c ≢ k → with_entry k a entries c ≡ entries c
with_entry-other k a entries c other = rw (ne_eqb c k other) refl

pub among_other : (c k : ℕ) (cs : List ℕ) → is_among k cs ≡ false → is_among c cs ≡ true → c ≢ k
among_other c k cs out here e = grind (arith, out, here, e)

pub flat-with_entry : (k : ℕ) (t : Trees Host) (family : ℕ → Trees Host) (cs : List ℕ) → is_among k cs ≡ false
    → flat (with_entry k t family) cs ≡ flat family cs
flat-with_entry k t family cs out = flat-agree (with_entry k t family) family cs (λ c e. with_entry-other k t family c (among_other c k cs out e))

count-flat_none : (q : ℕ) (family : ℕ → Trees Host) (cs : List ℕ) → ((d : ℕ) → is_among d cs ≡ true → count q (family d) ≡ 0) → count q (flat family cs) ≡ 0
count-flat_none q family [] none = refl
count-flat_none q family (k ∷ ks) none =
    omega (arith, count-joined q (family k) (flat family ks), none k (among_first k ks), count-flat_none q family ks (λ d e. none d (among_rest d k ks e)))

pub alone-flat : (ids : ℕ → ℕ) (family : ℕ → Trees Host) (cs : List ℕ) (c : ℕ) → NoRepeats cs → AreAt ids family cs → StandsApart ids family cs c
    → is_among c cs ≡ true
    → alone (ids c) (flat family cs) ≡ family c
alone-flat ids family [] c distinct at apart e = absurd (cc)
alone-flat ids family (k ∷ ks) c distinct at apart e =
    let none : k ≡ c → count (ids c) (flat family ks) ≡ 0 =
    λ same. count-flat_none (ids c) family ks (λ d e. apart d (among_rest d k ks e) (among_other d c ks (ap (λ c. is_among c ks) (sym same) ∙ distinct.0) e)) in
    grind (
      arith,
      e,
      eqb_tells k c,
      alone-joined (ids c) (family k) (flat family ks),
      alone-at (ids k) (family k) (at k (among_first k ks)),
      alone-absent (ids c) (flat family ks),
      none,
      alone-absent (ids c) (family k),
      apart k (among_first k ks),
      joined-nil (family k),
      alone-flat ids family ks c distinct.1 (λ d e. at d (among_rest d k ks e)) (λ d e. apart d (among_rest d k ks e)),
    )

pub replaced-flat : (ids : ℕ → ℕ) (family : ℕ → Trees Host) (cs : List ℕ) (c : ℕ) (to : Trees Host) → AreAt ids family cs → StandsApart ids family cs c
    → replaced (ids c) to (flat family cs) ≡ flat (with_entry c to family) cs
replaced-flat ids family [] c to at apart = refl
replaced-flat ids family (k ∷ ks) c to at apart =
    grind (
      arith,
      eqb_tells k c,
      replaced-joined (ids c) to (family k) (flat family ks),
      replaced-flat ids family ks c to (λ d e. at d (among_rest d k ks e)) (λ d e. apart d (among_rest d k ks e)),
      replaced-at (ids k) to (family k) (at k (among_first k ks)),
      replaced-absent (ids c) to (family k),
      apart k (among_first k ks),
    )

-- one more tree, before that of a key or after all
inserted-at : (h : ℕ) (before : Option ℕ) (new t rest : Trees Host) → IsAt h t
    → inserted before new (joined t rest) ≡ cond (is_named before h) (joined new (joined t rest)) (joined t (inserted before new rest))
inserted-at h before new t rest at =
    rw at.is (ap (λ i. cond (is_named before i) (joined new (tree at.host at.below rest)) (tree at.host at.below (inserted before new rest))) at.id)

pub inserted-flat : (ids : ℕ → ℕ) (family : ℕ → Trees Host) (cs : List ℕ) (before : Option ℕ) (k : ℕ) (new : Trees Host) → AreAt ids family cs
    → is_among k cs ≡ false
    → ((d : ℕ) → is_among d cs ≡ true → is_named (option_map ids before) (ids d) ≡ is_named before d)
    → inserted (option_map ids before) new (flat family cs) ≡ flat (with_entry k new family) (names_with before (k ∷ []) cs)
inserted-flat ids family [] before k new at out named = sym (joined-nil (with_entry k new family k) ∙ with_entry-same k new family)
inserted-flat ids family (x ∷ xs) before k new at out named =
    grind (
      arith,
      out,
      eqb_tells k k,
      eqb_tells x k,
      eqb_tells k x,
      flat-with_entry k new family (x ∷ xs) out,
      inserted-at (ids x) (option_map ids before) new (family x) (flat family xs) (at x (among_first x xs)),
      named x (among_first x xs),
      inserted-flat ids family xs before k new (λ d e. at d (among_rest d x xs e)) (grind (arith, out)) (λ d e. named d (among_rest d x xs e)),
    )

-- The children of a host, one move after another: what its operations lead to, and which children are after it.
use Rattle.std.proofs.Common.{◌≡◌, ◌≢◌, ◌∙◌, ◌+◌, ◌<◌, ◌≤◌, ℕ, true, false, List, [], ◌∷◌, ◌++◌, Option, None, Some, option_map, inl, inr, refl, ap, subst, arith, ne_eqb}
use Rattle.std.proofs.lemmas.Bool.Decides.{eqb_tells}
use Rattle.std.proofs.lemmas.Bool.{cases_lt}
use Rattle.lx_node.specs.Limits.{last_u32}
use Rattle.lx_trees.specs.Trees.{Trees, nil, tree}
use Rattle.lx_trees.specs.NamedTrees.{total}
use Rattle.lx_trees.specs.Siblings.{is_among, is_named, is_place, NoRepeats, names_without, names_with}
use Rattle.lx_trees.proofs.NamedTrees as trees
use Rattle.lx_trees.proofs.Siblings.{is_among-names_without, is_among-names_with}
use Rattle.lx_host.specs.declared.op.Op.{Op}
use Rattle.lx_host.specs.declared.op.Op.TheVariants.{Place, Drop}
use Rattle.lx_host.specs.Branches.{has_before}
use Rattle.lx_host.specs.Hosts.{Host, id_of, count, without, alone, ids_of, inserted, fits_before}
use Rattle.lx_host.proofs.Laws.{count-joined, without-joined, without-absent}
use Rattle.lx_forest.specs.Forest.{Label, Forest}
use Rattle.lx_render.specs.Render.{render}
use Rattle.lx_reconcile.specs.Created.{numbered, creation}
use Rattle.lx_reconcile.specs.Reconciled.{replaced, LeadsAt, flat}
use Rattle.lx_reconcile.proofs.Created.{count-numbered_before}
use Rattle.lx_reconcile.proofs.Families.{with_entry, AreAt, StandsApart, stands_apart, other_id, count-at, count-flat, ids_of-flat, is_among-ids, alone-flat, without-flat, replaced-flat, inserted-flat, flat-agree, among_first, among_rest}
use Rattle.lx_reconcile.proofs.Frames.{replaced-absent, at_then, at_numbered, at_leave, at_place, at_make, at_inner, some_among}

-- ---- what is known of the ids where operations lead

-- wherever the host is, no id is there twice among its children, and none is the next one or after it
pub at_kids : (h : ℕ) (a : Host) (kids : Trees Host) (n : ℕ) (ops : List Op) (to : Trees Host) (m : ℕ)
    → (((q : ℕ) → count q kids < 2) → ((q : ℕ) → n ≤ q → count q kids ≡ 0) → LeadsAt h (tree a kids nil) n ops to m) → LeadsAt h (tree a kids nil) n ops to m
at_kids h a kids n ops to m given =
    at_numbered h (tree a kids nil) n ops to m (λ i. given (λ q. omega (arith, i.once q)) (λ q e. omega (arith, i.below q (omega (arith, e)))))

-- ---- which keys a family has

pub no_repeats : (ids : ℕ → ℕ) (family : ℕ → Trees Host) (cs : List ℕ) → AreAt ids family cs → ((q : ℕ) → count q (flat family cs) < 2) → NoRepeats cs
no_repeats ids family [] at once = tt
no_repeats ids family (k ∷ ks) at once = (
  grind (
    arith,
    once (ids k),
    count-joined (ids k) (family k) (flat family ks),
    count-at (ids k) (family k) (at k (among_first k ks)),
    count-flat (ids k) k family ks,
  ),
  no_repeats ids family ks (λ c e. at c (among_rest c k ks e)) (λ q. omega (arith, once q, count-joined q (family k) (flat family ks))),
)

-- what is there where a family is read
among_kids : (ids : ℕ → ℕ) (family : ℕ → Trees Host) (cs : List ℕ) (c : ℕ) → AreAt ids family cs → is_among c cs ≡ true
    → is_among (ids c) (ids_of (flat family cs)) ≡ true
among_kids ids family cs c at here = ap (is_among (ids c)) (ids_of-flat ids family cs at) ∙ is_among-ids ids c cs here

-- ---- one move

pub at_stay : (h : ℕ) (a : Host) (ids : ℕ → ℕ) (family : ℕ → Trees Host) (cs : List ℕ) (n c : ℕ) (ops : List Op) (to : Trees Host) (m : ℕ) → a.id ≡ h
    → AreAt ids family cs → is_among c cs ≡ true
    → LeadsAt (ids c) (family c) n ops to m
    → LeadsAt h (tree a (flat family cs) nil) n ops (tree a (flat (with_entry c to family) cs) nil) m
at_stay h a ids family cs n c ops to m id at here inner =
    at_kids h a (flat family cs) n ops (tree a (flat (with_entry c to family) cs) nil) m (λ once free.
    let apart = stands_apart ids family cs c at once here in
    subst (λ kids. LeadsAt h (tree a (flat family cs) nil) n ops (tree a kids nil) m) (replaced-flat ids family cs c to at apart)
    (at_inner h a (flat family cs) n (ids c) (family c) ops to m id (among_kids ids family cs c at here)
    (alone-flat ids family cs c (no_repeats ids family cs at once) at apart here) inner))

pub at_gone : (h : ℕ) (a : Host) (ids : ℕ → ℕ) (family : ℕ → Trees Host) (cs : List ℕ) (n c : ℕ) → a.id ≡ h → AreAt ids family cs → is_among c cs ≡ true
    → ids c ≢ 0
    → LeadsAt h (tree a (flat family cs) nil) n (Drop (ids c) ∷ []) (tree a (flat family (names_without c cs)) nil) n
at_gone h a ids family cs n c id at here nonzero =
    at_kids h a (flat family cs) n (Drop (ids c) ∷ []) (tree a (flat family (names_without c cs)) nil) n (λ once free.
    subst (λ kids. LeadsAt h (tree a (flat family cs) nil) n (Drop (ids c) ∷ []) (tree a kids nil) n)
    (without-flat ids family cs c at (stands_apart ids family cs c at once here))
    (at_leave h a (flat family cs) n (ids c) id nonzero (among_kids ids family cs c at here)))

-- the id before which a child comes names the same child
named_id : (ids : ℕ → ℕ) (family : ℕ → Trees Host) (cs : List ℕ) (before : Option ℕ) → AreAt ids family cs → ((q : ℕ) → count q (flat family cs) < 2)
    → is_place before cs ≡ true
    → (d : ℕ) → is_among d cs ≡ true → is_named (option_map ids before) (ids d) ≡ is_named before d
named_id ids family cs None at once place d there = refl
named_id ids family cs (Some b) at once place d there =
    grind (arith, eqb_tells d b, eqb_tells (ids d) (ids b), other_id ids family cs b d at (stands_apart ids family cs b at once place) there)

has_before_ids : (ids : ℕ → ℕ) (family : ℕ → Trees Host) (cs : List ℕ) (before : Option ℕ) → AreAt ids family cs → is_place before cs ≡ true
    → has_before (option_map ids before) (ids_of (flat family cs)) ≡ true
has_before_ids ids family cs None at place = refl
has_before_ids ids family cs (Some b) at place = among_kids ids family cs b at place

pub at_new : (h : ℕ) (a : Host) (ids : ℕ → ℕ) (family : ℕ → Trees Host) (cs : List ℕ) (n k : ℕ) (before : Option ℕ) (label : Label) (below : Forest) → a.id ≡ h
    → AreAt ids family cs
    → is_among k cs ≡ false → is_place before cs ≡ true → n + total (tree label below nil) ≤ last_u32
    → LeadsAt h (tree a (flat family cs) nil) n (creation n label below ++ Place h n (option_map ids before) ∷ [])
    (tree a (flat (with_entry k (numbered n (render (tree label below nil))) family) (names_with before (k ∷ []) cs)) nil) (n + total (tree label below nil))
at_new h a ids family cs n k before label below id at out place room =
    let new = numbered n (render (tree label below nil)) in
    let ops = creation n label below ++ Place h n (option_map ids before) ∷ [] in
    let m = n + total (tree label below nil) in
    at_kids h a (flat family cs) n ops (tree a (flat (with_entry k new family) (names_with before (k ∷ []) cs)) nil) m (λ once free.
    subst (λ kids. LeadsAt h (tree a (flat family cs) nil) n ops (tree a kids nil) m)
    (inserted-flat ids family cs before k new at out (named_id ids family cs before at once place))
    (at_make h a (flat family cs) n label below (option_map ids before) id room (has_before_ids ids family cs before at place)))

pub without_key : (c d : ℕ) (cs : List ℕ) → is_among d (names_without c cs) ≡ true → (is_among d cs ≡ true) × (d ≢ c)
without_key c d cs e = (grind (arith, e, is_among-names_without c d cs), λ same. grind (arith, e, is_among-names_without c d cs, eqb_tells d c, same))

without_self : (c : ℕ) (cs : List ℕ) → is_among c (names_without c cs) ≡ false
without_self c cs = grind (arith, is_among-names_without c c cs, eqb_tells c c)

fits_id : (ids : ℕ → ℕ) (family : ℕ → Trees Host) (cs : List ℕ) (c : ℕ) (before : Option ℕ) → AreAt ids family cs → StandsApart ids family cs c
    → is_place before cs ≡ true → is_named before c ≡ false
    → fits_before (ids c) (option_map ids before) (ids_of (flat family cs)) ≡ true
fits_id ids family cs c None at apart place other = refl
fits_id ids family cs c (Some b) at apart place other =
    let differ : b ≢ c = λ e. grind (arith, other, eqb_tells c b, e) in
    rw (among_kids ids family cs b at place, ne_eqb (ids b) (ids c) (other_id ids family cs c b at apart place differ)) refl

pub at_moved : (h : ℕ) (a : Host) (ids : ℕ → ℕ) (family : ℕ → Trees Host) (cs : List ℕ) (n c : ℕ) (before : Option ℕ) → a.id ≡ h → AreAt ids family cs
    → is_among c cs ≡ true → ids c ≢ 0
    → is_place before cs ≡ true → is_named before c ≡ false
    → LeadsAt h (tree a (flat family cs) nil) n (Place h (ids c) (option_map ids before) ∷ [])
    (tree a (flat family (names_with before (c ∷ []) (names_without c cs))) nil) n
at_moved h a ids family cs n c before id at here nonzero place other =
    let ops = Place h (ids c) (option_map ids before) ∷ [] in
    let kids = flat family cs in
    at_kids h a kids n ops (tree a (flat family (names_with before (c ∷ []) (names_without c cs))) nil) n (λ once free.
    let apart = stands_apart ids family cs c at once here in
    let own : alone (ids c) kids ≡ family c = alone-flat ids family cs c (no_repeats ids family cs at once) at apart here in
    let left : without (ids c) kids ≡ flat family (names_without c cs) = without-flat ids family cs c at apart in
    let there : inserted (option_map ids before) (family c) (flat family (names_without c cs))
    ≡ flat (with_entry c (family c) family) (names_with before (c ∷ []) (names_without c cs)) =
    inserted-flat ids family (names_without c cs) before c (family c) (λ d e. at d (without_key c d cs e).0) (without_self c cs)
    (λ d e. named_id ids family cs before at once place d (without_key c d cs e).0) in
    let same : flat (with_entry c (family c) family) (names_with before (c ∷ []) (names_without c cs))
    ≡ flat family (names_with before (c ∷ []) (names_without c cs)) =
    flat-agree (with_entry c (family c) family) family (names_with before (c ∷ []) (names_without c cs)) (λ d e. entry_own c family d) in
    subst (λ kids_after. LeadsAt h (tree a kids nil) n ops (tree a kids_after nil) n)
    (ap (λ t. inserted (option_map ids before) t (without (ids c) kids)) own ∙ ap (inserted (option_map ids before) (family c)) left ∙ there ∙ same)
    (at_place h a kids n (ids c) (option_map ids before) id nonzero (among_kids ids family cs c at here) (fits_id ids family cs c before at apart place other)))
  where
    entry_own : (c : ℕ) (family : ℕ → Trees Host) (d : ℕ) → with_entry c (family c) family d ≡ family d
    entry_own c family d = grind (arith, eqb_tells d c)

-- what comes before a tree that then leaves is in its place
without_inserted : (i : ℕ) (new t : Trees Host) → count i t < 2 → count i new ≡ 0 → is_among i (ids_of t) ≡ true
    → without i (inserted (Some i) new t) ≡ replaced i new t
without_inserted i new nil once free here = absurd (cc)
without_inserted i new (tree x b r) once free here =
    grind (
      arith,
      here,
      once,
      eqb_tells x.id i,
      some_among i r,
      without-joined i new (tree x b r),
      without-absent i new free,
      without-absent i b,
      without-absent i r,
      replaced-absent i new b,
      replaced-absent i new r,
      without_inserted i new r,
    )

among_inserted : (i : ℕ) (before : Option ℕ) (new t : Trees Host) → is_among i (ids_of t) ≡ true → is_among i (ids_of (inserted before new t)) ≡ true
among_inserted i before new t here =
    ap (is_among i) (trees.names-inserted id_of before new t)
    ∙ is_among-names_with before (ids_of new) (ids_of t) i
    ∙ grind (arith, here)

-- a child whose element is another one: it is made anew before its old host, which then goes
pub at_again : (h : ℕ) (a : Host) (ids : ℕ → ℕ) (family : ℕ → Trees Host) (cs : List ℕ) (n c : ℕ) (label : Label) (below : Forest) → a.id ≡ h
    → AreAt ids family cs
    → is_among c cs ≡ true → ids c ≢ 0 → n + total (tree label below nil) ≤ last_u32
    → LeadsAt h (tree a (flat family cs) nil) n ((creation n label below ++ Place h n (Some (ids c)) ∷ []) ++ Drop (ids c) ∷ [])
    (tree a (flat (with_entry c (numbered n (render (tree label below nil))) family) cs) nil) (n + total (tree label below nil))
at_again h a ids family cs n c label below id at here nonzero room =
    let new = numbered n (render (tree label below nil)) in
    let kids = flat family cs in
    let first = creation n label below ++ Place h n (Some (ids c)) ∷ [] in
    let m = n + total (tree label below nil) in
    at_kids h a kids n (first ++ Drop (ids c) ∷ []) (tree a (flat (with_entry c new family) cs) nil) m (λ once free.
    let among = among_kids ids family cs c at here in
    let old_id : ids c < n = old_is_below n (ids c) kids free (some_among (ids c) kids among) in
    let none : count (ids c) new ≡ 0 = count-numbered_before (ids c) n (render (tree label below nil)) old_id in
    let put = inserted (Some (ids c)) new kids in
    let same : without (ids c) put ≡ flat (with_entry c new family) cs =
    without_inserted (ids c) new kids (once (ids c)) none among ∙ replaced-flat ids family cs c new at (stands_apart ids family cs c at once here) in
    subst (λ kids_after. LeadsAt h (tree a kids nil) n (first ++ Drop (ids c) ∷ []) (tree a kids_after nil) m) same
    (at_then h (tree a kids nil) n first (tree a put nil) m (Drop (ids c) ∷ []) (tree a (without (ids c) put) nil) m
    (at_make h a kids n label below (Some (ids c)) id room among)
    (at_leave h a put m (ids c) id nonzero (among_inserted (ids c) (Some (ids c)) new kids among))
    (record { host = a; below = put; is = refl; id = id })))
  where
    old_is_below : (n i : ℕ) (t : Trees Host) → ((q : ℕ) → n ≤ q → count q t ≡ 0) → 0 < count i t → i < n
    old_is_below n i t free there = elim (cases_lt i n) [ inl before ↦ before | inr behind ↦ absurd (omega (arith, free i behind, there)) ]

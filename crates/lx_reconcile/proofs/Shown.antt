-- Host trees that show a forest: where each node's host is, and what it shows.
use Rattle.std.proofs.Common.{◌≡◌, ◌∙◌, ◌<◌, ℕ, true, cond, eqb, List, [], ◌∷◌, ◌++◌, length, length-append, Option, Some, option_map, refl, sym, ap, arith, eq-eqb, append_assoc, append-nil}
use Rattle.std.specs.Prelude.{unwrap_or}
use Rattle.std.proofs.lemmas.Bool.Decides.{eqb_tells}
use Rattle.lx_trees.specs.Trees.{Trees, nil, tree, joined}
use Rattle.lx_trees.specs.NamedTrees as named
use Rattle.lx_trees.specs.Siblings.{is_among, first_of}
use Rattle.lx_trees.specs.Spots.{Spot, spot_below}
use Rattle.lx_trees.proofs.NamedTrees as trees
use Rattle.lx_trees.proofs.Siblings.{is_among-append}
use Rattle.lx_trees.proofs.Spots.{option_map-option_or}
use Rattle.lx_host.specs.Hosts.{Face, Host, shape_of, count, alone}
use Rattle.lx_host.proofs.Laws.{alone-absent, joined-nil}
use Rattle.lx_forest.specs.Forest.{Label, Forest}
use Rattle.lx_forest.specs.Lookups as forest
use Rattle.lx_forest.specs.Lookups.{key_of}
use Rattle.lx_render.specs.Render.{render, face_of, last_kind}
use Rattle.lx_reconcile.specs.Allowed.{hosts_of}
use Rattle.std.proofs.lemmas.List.{nil_from_length}

-- the key of the node that a host shows
abbrev pub key_in : Host → ℕ
key_in host = host.face.key

-- ---- one after another

pub shape_of-joined : (s t : Trees Host) → shape_of (joined s t) ≡ joined (shape_of s) (shape_of t)
shape_of-joined nil t = refl
shape_of-joined (tree host below rest) t = ap (tree host.face (shape_of below)) (shape_of-joined rest t)

pub render-joined : (f g : Forest) → render (joined f g) ≡ joined (render f) (render g)
render-joined nil g = refl
render-joined (tree label below rest) g = ap (tree (face_of label (last_kind below)) (render below)) (render-joined rest g)

pub hosts_of-joined : (q : ℕ) (s t : Trees Host) → hosts_of q (joined s t) ≡ hosts_of q s ++ hosts_of q t
hosts_of-joined q nil t = refl
hosts_of-joined q (tree host below rest) t =
    ap (λ xs. cond (eqb host.face.key q) (host.id ∷ []) [] ++ hosts_of q below ++ xs) (hosts_of-joined q rest t)
    ∙ sym (append_assoc (cond (eqb host.face.key q) (host.id ∷ []) [] ++ hosts_of q below) (hosts_of q rest) (hosts_of q t))

-- ---- what has the shape of a forest

-- how a first host shows a first node
pub record ShowsFirst (h : Host) (b r : Trees Host) (l : Label) (f g : Forest) : Type 0 where
  pub face : h.face ≡ face_of l (last_kind f)
  pub below : shape_of b ≡ render f
  pub rest : shape_of r ≡ render g

pub shows_first : (h : Host) (b r : Trees Host) (l : Label) (f g : Forest) → shape_of (tree h b r) ≡ render (tree l f g) → ShowsFirst h b r l f g
shows_first h b r l f g e = record { face = cc; below = cc; rest = cc }

pub key_first : (h : Host) (b r : Trees Host) (l : Label) (f g : Forest) → ShowsFirst h b r l f g → h.face.key ≡ l.key
key_first h b r l f g s = ap (λ (x : Face). x.key) s.face

pub count-shown : (q : ℕ) (t : Trees Host) (f : Forest) → shape_of t ≡ render f → named.count key_in q t ≡ forest.count q f
count-shown q nil nil e = refl
count-shown q nil (tree l f g) e = absurd (cc)
count-shown q (tree h b r) nil e = absurd (cc)
count-shown q (tree h b r) (tree l f g) e =
    let s = shows_first h b r l f g e in
    rw (key_first h b r l f g s, count-shown q b f s.below, count-shown q r g s.rest) refl

pub names-shown : (t : Trees Host) (f : Forest) → shape_of t ≡ render f → named.names key_in t ≡ forest.roots f
names-shown nil nil e = refl
names-shown nil (tree l f g) e = absurd (cc)
names-shown (tree h b r) nil e = absurd (cc)
names-shown (tree h b r) (tree l f g) e =
    let s = shows_first h b r l f g e in
    rw (key_first h b r l f g s, names-shown r g s.rest) refl

pub alone-shown : (k : ℕ) (t : Trees Host) (f : Forest) → shape_of t ≡ render f → shape_of (named.alone key_in k t) ≡ render (forest.alone k f)
alone-shown k nil nil e = refl
alone-shown k nil (tree l f g) e = absurd (cc)
alone-shown k (tree h b r) nil e = absurd (cc)
alone-shown k (tree h b r) (tree l f g) e =
    let s = shows_first h b r l f g e in
    grind (
      arith,
      eqb_tells l.key k,
      key_first h b r l f g s,
      s.face,
      s.below,
      alone-shown k b f s.below,
      alone-shown k r g s.rest,
      shape_of-joined (named.alone key_in k b) (named.alone key_in k r),
      render-joined (forest.alone k f) (forest.alone k g),
    )

-- the children of a key
pub children-shown : (q : ℕ) (p r : Option ℕ) (t : Trees Host) (f : Forest) → shape_of t ≡ render f
    → option_map (λ (s : Spot Host). s.children) (spot_below key_in p t q) ≡ option_map (λ (s : Spot Label). s.children) (spot_below key_of r f q)
children-shown q p r nil nil e = refl
children-shown q p r nil (tree l f g) e = absurd (cc)
children-shown q p r (tree h b t) nil e = absurd (cc)
children-shown q p r (tree h b t) (tree l f g) e =
    let s = shows_first h b t l f g e in
    grind (
      arith,
      eqb_tells l.key q,
      key_first h b t l f g s,
      names-shown b f s.below,
      children-shown q (Some h.face.key) (Some l.key) b f s.below,
      children-shown q p r t g s.rest,
      option_map-option_or (λ (s : Spot Host). s.children) (spot_below key_in (Some h.face.key) b q) (spot_below key_in p t q),
      option_map-option_or (λ (s : Spot Label). s.children) (spot_below key_of (Some l.key) f q) (spot_below key_of r g q),
    )

-- ---- the hosts of a node

pub length-hosts_of : (q : ℕ) (t : Trees Host) → length (hosts_of q t) ≡ named.count key_in q t
length-hosts_of q nil = refl
length-hosts_of q (tree h b r) =
    let own = cond (eqb h.face.key q) (h.id ∷ []) [] in
    grind (
      arith,
      eqb_tells h.face.key q,
      length-append (own ++ hosts_of q b) (hosts_of q r),
      length-append own (hosts_of q b),
      length-hosts_of q b,
      length-hosts_of q r,
    )

list_one : (xs : List ℕ) → length xs ≡ 1 → xs ≡ unwrap_or (first_of xs) 0 ∷ []
list_one [] e = absurd (omega (arith, e))
list_one (x ∷ xs) e = ap (λ xs. x ∷ xs) (nil_from_length xs (omega (arith, e)))

pub hosts_of-none : (q : ℕ) (t : Trees Host) → named.count key_in q t ≡ 0 → hosts_of q t ≡ []
hosts_of-none q t e = nil_from_length (hosts_of q t) (length-hosts_of q t ∙ e)

-- the host of a node
abbrev pub host_at : ℕ → Trees Host → ℕ
host_at q t = unwrap_or (first_of (hosts_of q t)) 0

pub hosts_of-one : (q : ℕ) (t : Trees Host) → named.count key_in q t ≡ 1 → hosts_of q t ≡ host_at q t ∷ []
hosts_of-one q t e = list_one (hosts_of q t) (length-hosts_of q t ∙ e)

-- it is there
pub count-hosts_of : (k i : ℕ) (t : Trees Host) → is_among i (hosts_of k t) ≡ true → 0 < count i t
count-hosts_of k i nil e = absurd (cc)
count-hosts_of k i (tree h b r) e =
    grind (
      arith,
      e,
      is_among-append i (cond (eqb h.face.key k) (h.id ∷ []) [] ++ hosts_of k b) (hosts_of k r),
      is_among-append i (cond (eqb h.face.key k) (h.id ∷ []) []) (hosts_of k b),
      count-hosts_of k i b,
      count-hosts_of k i r,
    )

pub among_one : (i : ℕ) (xs : List ℕ) → xs ≡ i ∷ [] → is_among i xs ≡ true
among_one i xs e = rw (e, eq-eqb i i refl) refl

-- the tree of a node is the one at its host
pub alone-host : (k i : ℕ) (t : Trees Host) → ((q : ℕ) → count q t < 2) → named.count key_in k t ≡ 1 → hosts_of k t ≡ i ∷ []
    → named.alone key_in k t ≡ alone i t
alone-host k i nil once one is = refl
alone-host k i (tree h b r) once one is =
    grind (
      arith,
      once i,
      eqb_tells h.face.key k,
      eqb_tells h.id i,
      eqb_tells i i,
      hosts_of-none k b,
      hosts_of-none k r,
      append-nil (hosts_of k b),
      count-hosts_of k i b,
      count-hosts_of k i r,
      trees.alone-absent key_in k b,
      trees.alone-absent key_in k r,
      alone-absent i b,
      alone-absent i r,
      joined-nil (alone i b),
      alone-host k i b (λ q. omega (arith, once q)),
      alone-host k i r (λ q. omega (arith, once q)),
    )

-- where a key is only in the tree of another, its hosts are there
pub hosts_of-alone : (q c : ℕ) (t : Trees Host) → named.count key_in q (named.without key_in c t) ≡ 0 → hosts_of q (named.alone key_in c t) ≡ hosts_of q t
hosts_of-alone q c nil e = refl
hosts_of-alone q c (tree h b r) e =
    grind (
      arith,
      eqb_tells h.face.key c,
      eqb_tells h.face.key q,
      hosts_of-alone q c b,
      hosts_of-alone q c r,
      hosts_of-joined q (named.alone key_in c b) (named.alone key_in c r),
    )

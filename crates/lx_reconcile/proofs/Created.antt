-- What the operations that make the hosts of trees lead to.
use Rattle.std.proofs.Common.{◌≡◌, ◌≢◌, ◌∙◌, ◌+◌, ◌<◌, ◌≤◌, ℕ, true, false, eqb, ltb, List, [], ◌∷◌, ◌++◌, Option, None, inl, inr, refl, sym, ap, subst, arith, ne_eqb, eq-eqb, append-nil}
use Rattle.std.proofs.lemmas.Bool.{cases_lt}
use Rattle.std.proofs.lemmas.Bool.Decides.{eqb_tells}
use Rattle.lx_node.specs.Limits.{last_u32}
use Rattle.lx_trees.specs.Trees.{Trees, nil, tree, joined}
use Rattle.lx_trees.specs.NamedTrees.{total}
use Rattle.lx_trees.proofs.NamedTrees as trees
use Rattle.lx_node.specs.declared.kind.Kind.{Kind}
use Rattle.lx_host.specs.declared.op.Op.{Op}
use Rattle.lx_host.specs.declared.op.Op.TheVariants.{Place}
use Rattle.lx_host.specs.Hosts.{Face, Host, HostTree, id_of, one_host, shape_of, count, has, without, alone, put_below, children_of, fits_before, fits, effect, Leads, FitInTurn}
use Rattle.lx_host.proofs.Laws.{joined-nil, joined-assoc, inserted-None, count-joined, without-joined, alone-joined, put_below-joined, children_of-joined, children_of-absent, without-absent, alone-absent, put_below-absent}
use Rattle.lx_forest.specs.Forest.{Label, Forest}
use Rattle.lx_render.specs.Render.{render, face_of, last_kind}
use Rattle.lx_reconcile.specs.Created.{numbered, create_op, creations, creation}
use Rattle.lx_reconcile.specs.Changing.{IsWriteAt, is_text, is_attr, is_break}

abbrev pub host_tree : Trees Host → ℕ → HostTree
host_tree hosts next = record { hosts = hosts; next = next }

-- ---- operations one after another

pub Leads-append : (a b : List Op) (u v w : HostTree) → Leads u a v → Leads v b w → Leads u (a ++ b) w
Leads-append [] b u v w first then = subst (λ x. Leads x b w) first then
Leads-append (op ∷ a) b u v w first then = (first.0, first.1, first.2, Leads-append a b first.0 v w first.3 then)

pub Leads-fits : (ops : List Op) (v w : HostTree) → Leads v ops w → FitInTurn v ops
Leads-fits [] v w leads = tt
Leads-fits (op ∷ ops) v w leads = (leads.1, subst (λ u. FitInTurn u ops) leads.2 (Leads-fits ops leads.0 w leads.3))

-- operations lead to one host tree
pub Leads-same : (ops : List Op) (v w x : HostTree) → Leads v ops w → Leads v ops x → w ≡ x
Leads-same [] v w x one other = one ∙ sym other
Leads-same (op ∷ ops) v w x one other =
    Leads-same ops one.0 w x one.3 (subst (λ u. Leads u ops x) (other.2 ∙ sym one.2) other.3)

-- ---- hosts with ids in preorder

pub total-render : (f : Forest) → total (render f) ≡ total f
total-render nil = refl
total-render (tree label below rest) = omega (arith, total-render below, total-render rest)

pub total-numbered : (id : ℕ) (t : Trees Face) → total (numbered id t) ≡ total t
total-numbered id nil = refl
total-numbered id (tree face below rest) = omega (arith, total-numbered (id + 1) below, total-numbered (id + 1 + total below) rest)

pub shape_of-numbered : (id : ℕ) (t : Trees Face) → shape_of (numbered id t) ≡ t
shape_of-numbered id nil = refl
shape_of-numbered id (tree face below rest) = rw (shape_of-numbered (id + 1) below, shape_of-numbered (id + 1 + total below) rest)

pub count-numbered_before : (q id : ℕ) (t : Trees Face) → q < id → count q (numbered id t) ≡ 0
count-numbered_before q id nil h = refl
count-numbered_before q id (tree face below rest) h =
    grind (arith, h, eqb_tells id q, count-numbered_before q (id + 1) below, count-numbered_before q (id + 1 + total below) rest)

pub count-numbered_behind : (q id : ℕ) (t : Trees Face) → id + total t ≤ q → count q (numbered id t) ≡ 0
count-numbered_behind q id nil h = refl
count-numbered_behind q id (tree face below rest) h =
    grind (arith, h, eqb_tells id q, count-numbered_behind q (id + 1) below, count-numbered_behind q (id + 1 + total below) rest)

pub put_below-nil : (p : ℕ) (t : Trees Host) → put_below p None nil t ≡ t
put_below-nil p nil = refl
put_below-nil p (tree h below rest) =
    grind (arith, eqb_tells h.id p, inserted-None nil below, joined-nil below, put_below-nil p below, put_below-nil p rest)

-- what is put after a host's children, and more after that
pub put_below-twice : (p : ℕ) (new more t : Trees Host) → put_below p None more (put_below p None new t) ≡ put_below p None (joined new more) t
put_below-twice p new more nil = refl
put_below-twice p new more (tree h below rest) =
    grind (
      arith,
      put_below-twice p new more below,
      put_below-twice p new more rest,
      inserted-None new below,
      inserted-None more (joined below new),
      inserted-None (joined new more) below,
      joined-assoc below new more,
    )

-- what new hosts need: the ids from the next one on are free, there are so many, and the parent is there once
pub record IsReadyFor (parent more : ℕ) (hosts : Trees Host) (next : ℕ) : Type 0 where
  pub free : (q : ℕ) → next < q + 1 → count q hosts ≡ 0
  pub once : count parent hosts ≡ 1
  pub room : next + more ≤ last_u32

pub parent_before : (parent more : ℕ) (hosts : Trees Host) (next : ℕ) → IsReadyFor parent more hosts next → parent < next
parent_before parent more hosts next ready =
    elim (cases_lt parent next) [ inl before ↦ before | inr behind ↦ absurd (omega (arith, ready.once, ready.free parent (omega (arith, behind)))) ]

-- what is written at a host that is there fits
pub fits_write : {h : ℕ} {op : Op} → IsWriteAt h op → (w : HostTree) → has h w.hosts ≡ fits op w
unfolding fits
fits_write (is_text text) w = refl
fits_write (is_attr name value) w = refl
fits_write (is_break ending) w = refl

-- ---- one host

abbrev pub host_over : ℕ → Face → Trees Host → Trees Host
host_over id face below = tree (record { id = id; face = face }) below nil

above : (a b : ℕ) → a < b → ltb a b ≡ true
above a b h = grind (arith, h)

fits_create : (next : ℕ) (label : Label) (last : Option Kind) (hosts : Trees Host) → next < last_u32
    → fits (create_op next label last) (host_tree hosts next) ≡ true
unfolding fits
fits_create next label last hosts h = rw (eq-eqb next next refl) (above next last_u32 h)

effect_create : (next : ℕ) (label : Label) (last : Option Kind) (hosts : Trees Host)
    → host_tree (joined hosts (one_host next (face_of label last))) (next + 1) ≡ effect (create_op next label last) (host_tree hosts next)
unfolding effect
effect_create next label last hosts = refl

pub count_here : (id : ℕ) (face : Face) (below : Trees Host) → count id below ≡ 0 → count id (host_over id face below) ≡ 1
count_here id face below h = rw (eq-eqb id id refl) (omega (arith, h))

pub count_other : (q id : ℕ) (face : Face) (below : Trees Host) → id ≢ q → count q below ≡ 0 → count q (host_over id face below) ≡ 0
count_other q id face below other h = rw (ne_eqb id q other) (omega (arith, h))

-- what is put below the last host
put_last : (id : ℕ) (face : Face) (new hosts : Trees Host) → count id hosts ≡ 0
    → put_below id None new (joined hosts (one_host id face)) ≡ joined hosts (host_over id face new)
put_last id face new hosts h =
    put_below-joined id None new hosts (one_host id face)
    ∙ rw (put_below-absent id None new hosts h) (rw (eq-eqb id id refl) refl)

pub alone_last : (id : ℕ) (face : Face) (below hosts : Trees Host) → count id hosts ≡ 0
    → alone id (joined hosts (host_over id face below)) ≡ host_over id face below
alone_last id face below hosts h =
    alone-joined id hosts (host_over id face below)
    ∙ rw (alone-absent id hosts h) (rw (eq-eqb id id refl) refl)

pub without_last : (id : ℕ) (face : Face) (below hosts : Trees Host) → count id hosts ≡ 0 → without id (joined hosts (host_over id face below)) ≡ hosts
without_last id face below hosts h =
    without-joined id hosts (host_over id face below)
    ∙ rw (without-absent id hosts h) (rw (eq-eqb id id refl) (joined-nil hosts))

pub effect_place : (parent id : ℕ) (before : Option ℕ) (next : ℕ) (face : Face) (below hosts : Trees Host) → count id hosts ≡ 0
    → host_tree (put_below parent before (host_over id face below) hosts) next
    ≡ effect (Place parent id before) (host_tree (joined hosts (host_over id face below)) next)
unfolding effect
effect_place parent id before next face below hosts h =
    sym (ap (λ w. host_tree w next) (rw (alone_last id face below hosts h) (rw (without_last id face below hosts h) refl)))

pub has_if : (id : ℕ) (hosts : Trees Host) → 0 < count id hosts → has id hosts ≡ true
has_if id hosts h = above 0 (count id hosts) h

pub has_not : (id : ℕ) (hosts : Trees Host) → count id hosts ≡ 0 → has id hosts ≡ false
has_not id hosts h = rw h refl

pub fits_place : (parent id : ℕ) (before : Option ℕ) (next : ℕ) (face : Face) (below hosts : Trees Host) → id ≢ 0 → count id hosts ≡ 0 → count id below ≡ 0
    → 0 < count parent hosts → count parent (host_over id face below) ≡ 0
    → fits_before id before (children_of parent hosts) ≡ true → fits (Place parent id before) (host_tree (joined hosts (host_over id face below)) next) ≡ true
unfolding fits
fits_place parent id before next face below hosts nonzero absent outside_too there outside beside =
    let new = host_over id face below in
    let all = joined hosts new in
    let not_root : eqb id 0 ≡ false = ne_eqb id 0 nonzero in
    let child : has id all ≡ true = has_if id all (omega (arith, count-joined id hosts new, count_here id face below outside_too)) in
    let onto : has parent all ≡ true = has_if parent all (omega (arith, count-joined parent hosts new, there)) in
    let apart : has parent (alone id all) ≡ false = has_not parent (alone id all) (ap (count parent) (alone_last id face below hosts absent) ∙ outside) in
    let children : children_of parent all ≡ children_of parent hosts =
    children_of-joined parent hosts new ∙ ap (λ ids. children_of parent hosts ++ ids) (children_of-absent parent new outside)
    ∙ append-nil (children_of parent hosts) in
    rw (not_root, child, onto, apart, children) beside

-- ---- the hosts of trees

-- a host with what is below it, last and not placed
created_one : (next : ℕ) (hosts : Trees Host) (label : Label) (below : Forest) → next < last_u32 → count next hosts ≡ 0
    → Leads (host_tree (joined hosts (one_host next (face_of label (last_kind below)))) (next + 1)) (creations next (next + 1) below)
    (host_tree (put_below next None (numbered (next + 1) (render below)) (joined hosts (one_host next (face_of label (last_kind below)))))
    (next + 1 + total below))
    → Leads (host_tree hosts next) (creation next label below)
    (host_tree (joined hosts (host_over next (face_of label (last_kind below)) (numbered (next + 1) (render below)))) (next + 1 + total below))
created_one next hosts label below room free inner =
    let face = face_of label (last_kind below) in (
      host_tree (joined hosts (one_host next face)) (next + 1),
      fits_create next label (last_kind below) hosts room,
      effect_create next label (last_kind below) hosts,
      subst (λ w. Leads (host_tree (joined hosts (one_host next face)) (next + 1)) (creations next (next + 1) below)
          (host_tree w (next + 1 + total below))) (put_last next face (numbered (next + 1) (render below)) hosts free) inner,
    )

-- ---- what is needed on the way

-- below a host that was just created
ready_below : (parent next : ℕ) (hosts : Trees Host) (label : Label) (below rest : Forest) → IsReadyFor parent (total (tree label below rest)) hosts next
    → IsReadyFor next (total below) (joined hosts (one_host next (face_of label (last_kind below)))) (next + 1)
ready_below parent next hosts label below rest ready =
    let face = face_of label (last_kind below) in
    record {
      free = λ q h. omega
          (arith, h, ready.free q (omega (arith, h)), count-joined q hosts (one_host next face), count_other q next face nil (omega (arith, h)) refl);
      once = omega (arith, ready.free next (omega arith), count-joined next hosts (one_host next face), count_here next face nil refl);
      room = omega (arith, ready.room);
    }

-- after a host that was just placed
ready_behind : (parent next : ℕ) (hosts : Trees Host) (label : Label) (below rest : Forest) → IsReadyFor parent (total (tree label below rest)) hosts next
    → IsReadyFor parent (total rest) (put_below parent None (host_over next (face_of label (last_kind below)) (numbered (next + 1) (render below))) hosts)
    (next + 1 + total below)
ready_behind parent next hosts label below rest ready =
    let face = face_of label (last_kind below) in
    let inner = numbered (next + 1) (render below) in
    let new = host_over next face inner in
    let before = parent_before parent (total (tree label below rest)) hosts next ready in
    let counted = λ (q : ℕ). trees.count-put_below id_of q parent None new hosts ready.once in
    record {
      free = λ q h. omega (
        arith,
        h,
        ready.free q (omega (arith, h)),
        counted q,
        count_other q next face inner (omega (arith, h)) (count-numbered_behind q (next + 1) (render below) (omega (arith, h, total-render below))),
      );
      once = omega (
        arith,
        ready.once,
        counted parent,
        count_other parent next face inner (omega (arith, before)) (count-numbered_before parent (next + 1) (render below) (omega (arith, before))),
      );
      room = omega (arith, ready.room);
    }

-- ---- the hosts of trees, one after another at the end of a host's children

pub created : (parent next : ℕ) (hosts : Trees Host) (f : Forest) → IsReadyFor parent (total f) hosts next
    → Leads (host_tree hosts next) (creations parent next f) (host_tree (put_below parent None (numbered next (render f)) hosts) (next + total f))
created parent next hosts nil ready =
    let none : next + 0 ≡ next = omega arith in
    ap (λ h. host_tree h (next + 0)) (put_below-nil parent hosts) ∙ ap (host_tree hosts) none
created parent next hosts (tree label below rest) ready =
    let face = face_of label (last_kind below) in
    let inner = numbered (next + 1) (render below) in
    let new = host_over next face inner in
    let before = parent_before parent (total (tree label below rest)) hosts next ready in
    let free : count next hosts ≡ 0 = ready.free next (omega arith) in
    let on = next + 1 + total below in
    let behind = numbered on (render rest) in
    let sum : on + total rest ≡ next + total (tree label below rest) = omega arith in
    let same : on ≡ next + 1 + total (render below) = ap (λ n. next + 1 + n) (sym (total-render below)) in
    let placed = put_below parent None new hosts in
    Leads-append (creation next label below) (Place parent next None ∷ creations parent on rest) _ _ _
    (created_one next hosts label below (omega (arith, ready.room)) free
    (created next (next + 1) (joined hosts (one_host next face)) below (ready_below parent next hosts label below rest ready))) (
      host_tree placed on,
      fits_place parent next None on face inner hosts (omega (arith, before)) free (count-numbered_before next (next + 1) (render below) (omega arith)) (omega
          (arith, ready.once)) (count_other parent next face inner (omega (arith, before))
          (count-numbered_before parent (next + 1) (render below) (omega (arith, before)))) refl,
      effect_place parent next None on face inner hosts free,
      subst (λ w. Leads (host_tree placed on) (creations parent on rest) w) (
          ap (λ h. host_tree h (on + total rest)) (put_below-twice parent new behind hosts)
          ∙ ap (λ n. host_tree (put_below parent None (tree (record { id = next; face = face }) inner (numbered n (render rest))) hosts) (on + total rest)) same
          ∙ ap (host_tree (put_below parent None (numbered next (render (tree label below rest))) hosts)) sum
          ) (created parent on placed rest (ready_behind parent next hosts label below rest ready)),
    )

-- ---- one tree, not placed

pub created_alone : (next : ℕ) (hosts : Trees Host) (label : Label) (below : Forest) → ((q : ℕ) → next < q + 1 → count q hosts ≡ 0)
    → next + 1 + total below ≤ last_u32
    → Leads (host_tree hosts next) (creation next label below)
    (host_tree (joined hosts (numbered next (render (tree label below nil)))) (next + 1 + total below))
created_alone next hosts label below free room =
    let face = face_of label (last_kind below) in
    created_one next hosts label below (omega (arith, room)) (free next (omega arith))
    (created next (next + 1) (joined hosts (one_host next face)) below (record {
      free = λ q h. omega (arith, h, free q (omega (arith, h)), count-joined q hosts (one_host next face), count_other q next face nil (omega (arith, h)) refl);
      once = omega (arith, free next (omega arith), count-joined next hosts (one_host next face), count_here next face nil refl);
      room = room;
    }))

-- ---- by what is known of a host tree

pub count-numbered : (q id : ℕ) (t : Trees Face) → count q (numbered id t) < 2
count-numbered q id nil = omega arith
count-numbered q id (tree face below rest) =
    grind (
      arith,
      eqb_tells id q,
      cases_lt q (id + 1 + total below),
      count-numbered q (id + 1) below,
      count-numbered q (id + 1 + total below) rest,
      count-numbered_before q (id + 1) below,
      count-numbered_before q (id + 1 + total below) rest,
      count-numbered_behind q (id + 1) below,
    )

-- What operations make of one host with what is below it, whatever is around it.
use Rattle.std.proofs.Common.{◌≡◌, ◌≢◌, ◌∙◌, ◌+◌, ◌<◌, ◌≤◌, ℕ, Bool, true, false, refl, sym, ap, subst, arith, eqb, List, [], ◌∷◌, ◌++◌, append-nil, Option, None, Some}
use Rattle.std.proofs.lemmas.Bool.{ne_eqb, eq-eqb, ltb-true}
use Rattle.std.proofs.lemmas.Bool.Decides.{eqb_tells}
use Rattle.lx_node.specs.Limits.{last_u32}
use Rattle.lx_trees.specs.Trees.{Trees, nil, tree, joined}
use Rattle.lx_trees.specs.NamedTrees.{total}
use Rattle.lx_trees.specs.Siblings.{is_among}
use Rattle.lx_trees.proofs.NamedTrees as trees
use Rattle.lx_trees.proofs.Spots as spots
use Rattle.lx_trees.proofs.Subtrees as subtrees
use Rattle.lx_host.specs.declared.op.Op.{Op}
use Rattle.lx_host.specs.declared.op.Op.TheVariants.{Place, Drop, Text, Attr, Break}
use Rattle.lx_host.specs.declared.tag.Name.{Name}
use Rattle.lx_host.specs.Hosts.{Face, Host, HostTree, id_of, ids_of, children_of, count, has, without, alone, inserted, put_below, changed, with_text, with_value, with_ending, fits_before, fits, effect, Leads, IsNumbered}
use Rattle.lx_host.specs.Branches.{has_before}
use Rattle.lx_host.proofs.Laws.{joined-nil, joined-assoc, without-joined, alone-joined, put_below-joined, changed-joined, without-absent, alone-absent, put_below-absent, changed-absent, children_of-absent, count-without-alone, count-changed}
use Rattle.lx_host.proofs.Standing.{effect_place, effect_drop, effect_text, effect_attr, effect_break}
use Rattle.lx_reconcile.proofs.Created as created
use Rattle.lx_forest.specs.Forest.{Label, Forest}
use Rattle.lx_render.specs.Render.{render, face_of, last_kind}
use Rattle.lx_reconcile.specs.Created.{numbered, creation}
use Rattle.lx_reconcile.specs.Reconciled.{replaced, LeadsAt, IsAt}
use Rattle.lx_reconcile.specs.Allowed.{AllWriteAnew, WritesAnew}
use Rattle.lx_reconcile.proofs.Due.{writes_append, creation_writes}
use Rattle.lx_reconcile.proofs.Created.{host_tree, Leads-append, has_if, has_not, host_over, count-numbered_before, count-numbered_behind, count-numbered, created_alone, total-render, fits_write}
use Rattle.lx_reconcile.specs.Changing.{is_text, is_attr, is_break}

-- ---- other trees in place of the one at a host

pub replaced-joined : (h : ℕ) (new s t : Trees Host) → replaced h new (joined s t) ≡ joined (replaced h new s) (replaced h new t)
replaced-joined h new nil t = refl
replaced-joined h new (tree x below rest) t =
    grind (arith, replaced-joined h new rest t, joined-assoc new (replaced h new rest) (replaced h new t))

pub replaced-absent : (h : ℕ) (new t : Trees Host) → count h t ≡ 0 → replaced h new t ≡ t
replaced-absent h new nil e = refl
replaced-absent h new (tree x below rest) e = grind (arith, replaced-absent h new below, replaced-absent h new rest)

-- what is put there last stays
pub replaced-twice : (h : ℕ) (new newer t : Trees Host) → replaced h newer new ≡ newer → replaced h newer (replaced h new t) ≡ replaced h newer t
replaced-twice h new newer nil e = refl
replaced-twice h new newer (tree x below rest) e =
    grind (
      arith,
      e,
      eqb_tells x.id h,
      replaced-joined h newer new (replaced h new rest),
      replaced-twice h new newer below e,
      replaced-twice h new newer rest e,
    )

-- the same tree there
pub replaced-same : (h : ℕ) (t : Trees Host) → count h t ≡ 1 → replaced h (alone h t) t ≡ t
replaced-same h nil once = absurd (omega arith)
replaced-same h (tree x below rest) once =
    grind (
      arith,
      eqb_tells x.id h,
      replaced-same h below,
      replaced-same h rest,
      alone-absent h below,
      alone-absent h rest,
      replaced-absent h,
      joined-nil (alone h below),
    )

-- they are found there
alone_at : (h : ℕ) (b t : Trees Host) → IsAt h b → count h t ≡ 1 → alone h (replaced h b t) ≡ b
alone_at h b nil at once = absurd (omega arith)
alone_at h b (tree x below rest) at once =
    let own : alone h b ≡ b = ap (alone h) at.is ∙ rw (eq-eqb at.host.id h at.id) refl ∙ sym at.is in
    grind (
      arith,
      own,
      eqb_tells x.id h,
      alone_at h b below at,
      alone_at h b rest at,
      replaced-absent h b below,
      replaced-absent h b rest,
      alone-absent h below,
      alone-absent h rest,
      alone-joined h b rest,
      joined-nil b,
      joined-nil (alone h (replaced h b below)),
    )

-- ---- what is done at one host is done inside a tree that holds it

pub record IsDoneAt (q : ℕ) (change : Trees Host → Trees Host) : Type 0 where
  pub through : (s t : Trees Host) → change (joined s t) ≡ joined (change s) (change t)
  pub absent : (t : Trees Host) → count q t ≡ 0 → change t ≡ t
  pub other : (x : Host) (below rest : Trees Host) → eqb x.id q ≡ false → change (tree x below rest) ≡ tree x (change below) (change rest)

inside_first : (q h : ℕ) (change : Trees Host → Trees Host) (x : Host) (below rest : Trees Host) → IsDoneAt q change → count h (tree x below rest) ≡ 1
    → count q (without h (tree x below rest)) ≡ 0
    → (count h below ≡ 1 → count q (without h below) ≡ 0 → change below ≡ replaced h (change (alone h below)) below)
    → (count h rest ≡ 1 → count q (without h rest) ≡ 0 → change rest ≡ replaced h (change (alone h rest)) rest)
    → change (tree x below rest) ≡ replaced h (change (alone h (tree x below rest))) (tree x below rest)
inside_first q h change x below rest d once e in_below in_rest =
    grind (
      arith,
      eqb_tells x.id h,
      eqb_tells x.id q,
      d.through (tree x below nil) rest,
      d.absent below,
      d.absent rest,
      d.other x below rest,
      without-absent h below,
      without-absent h rest,
      alone-absent h below,
      alone-absent h rest,
      replaced-absent h (change (alone h below)) rest,
      replaced-absent h (change (alone h rest)) below,
      replaced-absent h (change (tree x below nil)) rest,
      joined-nil (alone h below),
    )

pub inside : (q h : ℕ) (change : Trees Host → Trees Host) (t : Trees Host) → IsDoneAt q change → count h t ≡ 1 → count q (without h t) ≡ 0
    → change t ≡ replaced h (change (alone h t)) t
inside q h change nil d once e = absurd (omega arith)
inside q h change (tree x below rest) d once e = inside_first q h change x below rest d once e (inside q h change below d) (inside q h change rest d)

-- ---- a host tree where a host is with this below it

children_of-alone : (h : ℕ) (t : Trees Host) → count h t ≡ 1 → children_of h t ≡ children_of h (alone h t)
children_of-alone h nil once = absurd (omega arith)
children_of-alone h (tree x below rest) once =
    grind (
      arith,
      eqb_tells x.id h,
      children_of-alone h below,
      children_of-alone h rest,
      children_of-absent h,
      alone-absent h,
      append-nil (children_of h below),
      joined-nil (alone h below),
    )

pub record IsHere (h : ℕ) (a : Host) (kids : Trees Host) (w : HostTree) : Type 0 where
  pub id : a.id ≡ h
  pub numbered : IsNumbered w
  pub once : count h w.hosts ≡ 1
  pub is : alone h w.hosts ≡ tree a kids nil
  pub apart : count h kids ≡ 0

pub is_here : (h : ℕ) (a : Host) (kids : Trees Host) (w : HostTree) → a.id ≡ h → IsNumbered w → has h w.hosts ≡ true → alone h w.hosts ≡ tree a kids nil
    → IsHere h a kids w
is_here h a kids w id w_is there is =
    let once : count h w.hosts ≡ 1 = omega (arith, w_is.once h, ltb-true 0 (count h w.hosts) there) in
    let all : count h (tree a kids nil) ≡ 1 = ap (count h) (sym is) ∙ subtrees.count-alone_self id_of h w.hosts ∙ once in
    record { id = id; numbered = w_is; once = once; is = is; apart = omega (arith, rw (eq-eqb a.id h id) at all) }

children_here : (h : ℕ) (a : Host) (kids : Trees Host) (w : HostTree) → IsHere h a kids w → children_of h w.hosts ≡ ids_of kids
children_here h a kids w p =
    children_of-alone h w.hosts p.once ∙ ap (children_of h) p.is ∙ rw (eq-eqb a.id h p.id) (append-nil (ids_of kids))

-- what is done at the host itself, or at one below it
done_here : (q h : ℕ) (change : Trees Host → Trees Host) (a : Host) (kids to : Trees Host) (w : HostTree) → IsHere h a kids w → IsDoneAt q change
    → count q (without h w.hosts) ≡ 0 → change (tree a kids nil) ≡ to
    → change w.hosts ≡ replaced h to w.hosts
done_here q h change a kids to w p d outside is =
    inside q h change w.hosts d p.once outside ∙ ap (λ b. replaced h b w.hosts) (ap change p.is ∙ is)

-- no id is there more often
numbered_less : (w : HostTree) (hosts : Trees Host) → IsNumbered w → ((q : ℕ) → count q hosts ≤ count q w.hosts) → IsNumbered (host_tree hosts w.next)
numbered_less w hosts w_is less = record {
  once = λ q. omega (arith, w_is.once q, less q);
  below = λ q h. omega (arith, w_is.below q h, less q);
}

-- ---- nothing, and one after another

pub at_same : (h : ℕ) (from : Trees Host) (n : ℕ) → IsAt h from → LeadsAt h from n [] from n
at_same h from n at w w_is next there is =
    let once : count h w.hosts ≡ 1 = omega (arith, w_is.once h, ltb-true 0 (count h w.hosts) there) in
    let same : host_tree (replaced h from w.hosts) n ≡ w =
    ap (host_tree (replaced h from w.hosts)) (sym next)
    ∙ ap (λ t. host_tree t w.next) (ap (λ b. replaced h b w.hosts) (sym is) ∙ replaced-same h w.hosts once) in
    (same, subst IsNumbered (sym same) w_is, tt)

has_at : (h : ℕ) (b t : Trees Host) → IsAt h b → count h t ≡ 1 → has h (replaced h b t) ≡ true
has_at h b t at once =
    let all : count h (replaced h b t) ≡ count h (tree at.host at.below nil) =
    sym (subtrees.count-alone_self id_of h (replaced h b t)) ∙ ap (count h) (alone_at h b t at once ∙ at.is) in
    let some : 0 < count h (tree at.host at.below nil) = rw (eq-eqb at.host.id h at.id) (omega arith) in
    has_if h (replaced h b t) (omega (arith, all, some))

pub at_then : (h : ℕ) (a : Trees Host) (n : ℕ) (ops : List Op) (b : Trees Host) (m : ℕ) (more : List Op) (c : Trees Host) (l : ℕ)
    → LeadsAt h a n ops b m → LeadsAt h b m more c l → IsAt h b → LeadsAt h a n (ops ++ more) c l
at_then h a n ops b m more c l first then b_at w w_is next there is =
    let once : count h w.hosts ≡ 1 = omega (arith, w_is.once h, ltb-true 0 (count h w.hosts) there) in
    let mid = host_tree (replaced h b w.hosts) m in
    let f = first w w_is next there is in
    let t = then mid f.1 refl (has_at h b w.hosts b_at once) (alone_at h b w.hosts b_at once) in
    let inner : replaced h c b ≡ c = ap (replaced h c) b_at.is ∙ rw (eq-eqb b_at.host.id h b_at.id) (joined-nil c) in
    let same : host_tree (replaced h c mid.hosts) l ≡ host_tree (replaced h c w.hosts) l =
    ap (λ t. host_tree t l) (replaced-twice h b c w.hosts inner) in
    (Leads-append ops more w mid _ f.0 (subst (λ v. Leads mid more v) same t.0), subst IsNumbered same t.1, writes_append ops more w mid f.0 f.2 t.2)

-- where these operations lead may be shown from this: in the tree at the host no id is there twice, and each is below
-- the next one
pub at_numbered : (h : ℕ) (from : Trees Host) (n : ℕ) (ops : List Op) (to : Trees Host) (m : ℕ) → (IsNumbered (host_tree from n) → LeadsAt h from n ops to m)
    → LeadsAt h from n ops to m
at_numbered h from n ops to m leads w w_is next there is =
    leads (record {
      once = λ q. omega (arith, w_is.once q, ap (count q) is, count-without-alone q h w.hosts);
      below = λ q e. omega (arith, w_is.below q (omega (arith, e, next)), ap (count q) is, count-without-alone q h w.hosts);
    }) w w_is next there is

-- ---- one operation

-- An operation fits, and puts this in place of the tree at a host.
pub record Does (op : Op) (h : ℕ) (to : Trees Host) (w : HostTree) : Type 0 where
  pub fit : fits op w ≡ true
  pub is : host_tree (replaced h to w.hosts) w.next ≡ effect op w
  pub numbered : IsNumbered (host_tree (replaced h to w.hosts) w.next)
  pub anew : WritesAnew w op

at_op : (h n : ℕ) (op : Op) (to : Trees Host) (w : HostTree) → w.next ≡ n → Does op h to w
    → Leads w (op ∷ []) (host_tree (replaced h to w.hosts) n) × IsNumbered (host_tree (replaced h to w.hosts) n) × AllWriteAnew w (op ∷ [])
at_op h n op to w next d =
    let hosts = replaced h to w.hosts in (
      subst (λ m. Leads w (op ∷ []) (host_tree hosts m)) next (host_tree hosts w.next, d.fit, d.is, refl),
      subst (λ m. IsNumbered (host_tree hosts m)) next d.numbered,
      (d.anew, tt),
    )

-- ---- what a host shows, changed

-- the host, showing this
abbrev pub showing : Face → Host → Host
showing face a = record { id = a.id; face = face }

changed_here : (h : ℕ) (change : Face → Face) (a : Host) (kids : Trees Host) (w : HostTree) → IsHere h a kids w
    → changed h change w.hosts ≡ replaced h (tree (showing (change a.face) a) kids nil) w.hosts
changed_here h change a kids w p =
    let is : changed h change (tree a kids nil) ≡ tree (showing (change a.face) a) kids nil =
    rw (eq-eqb a.id h p.id, changed-absent h change kids p.apart) refl in
    done_here h h (changed h change) a kids _ w p
    (record { through = changed-joined h change; absent = changed-absent h change; other = λ x below rest e. rw e refl })
    (trees.count-without id_of h w.hosts) is

-- what shows another face isn't the same
changes_anew : (op : Op) (h : ℕ) (change : Face → Face) (a : Host) (kids : Trees Host) (w : HostTree) → IsHere h a kids w
    → host_tree (changed h change w.hosts) w.next ≡ effect op w → change a.face ≢ a.face → effect op w ≢ w
changes_anew op h change a kids w p is other same =
    let to = tree (showing (change a.face) a) kids nil in
    let at : IsAt h to = record { host = showing (change a.face) a; below = kids; is = refl; id = p.id } in
    let hosts : replaced h to w.hosts ≡ w.hosts = sym (changed_here h change a kids w p) ∙ ap (λ (x : HostTree). x.hosts) (is ∙ same) in
    let trees_same : to ≡ tree a kids nil = sym (alone_at h to w.hosts at p.once) ∙ ap (alone h) hosts ∙ p.is in
    let host_same : showing (change a.face) a ≡ a = cc in
    other (ap (λ (x : Host). x.face) host_same)

does_change : (op : Op) (h : ℕ) (change : Face → Face) (a : Host) (kids : Trees Host) (w : HostTree) → IsHere h a kids w → fits op w ≡ true
    → host_tree (changed h change w.hosts) w.next ≡ effect op w
    → change a.face ≢ a.face → (effect op w ≢ w → WritesAnew w op)
    → Does op h (tree (showing (change a.face) a) kids nil) w
does_change op h change a kids w p fit is other anew =
    let same = changed_here h change a kids w p in
    record {
      anew = anew (changes_anew op h change a kids w p is other);
      fit = fit;
      is = ap (λ t. host_tree t w.next) (sym same) ∙ is;
      numbered = numbered_less w _ p.numbered (λ q. omega (arith, ap (count q) same, count-changed q h change w.hosts));
    }

pub at_text : (h : ℕ) (a : Host) (kids : Trees Host) (n : ℕ) (text : List ℕ) → a.id ≡ h → with_text text a.face ≢ a.face
    → LeadsAt h (tree a kids nil) n (Text h text ∷ []) (tree (record { id = a.id; face = with_text text a.face }) kids nil) n
at_text h a kids n text id other w w_is next there is =
    at_op h n (Text h text) _ w next
    (does_change (Text h text) h (with_text text) a kids w (is_here h a kids w id w_is there is) (sym (fits_write (is_text text) w) ∙ there)
    (effect_text h text w) other (λ x. x))

pub at_attr : (h : ℕ) (a : Host) (kids : Trees Host) (n : ℕ) (name : Name) (value : Option (List ℕ)) → a.id ≡ h → with_value name value a.face ≢ a.face
    → LeadsAt h (tree a kids nil) n (Attr h name value ∷ []) (tree (record { id = a.id; face = with_value name value a.face }) kids nil) n
at_attr h a kids n name value id other w w_is next there is =
    at_op h n (Attr h name value) _ w next
    (does_change (Attr h name value) h (with_value name value) a kids w (is_here h a kids w id w_is there is)
    (sym (fits_write (is_attr name value) w) ∙ there) (effect_attr h name value w) other (λ x. x))

pub at_break : (h : ℕ) (a : Host) (kids : Trees Host) (n : ℕ) (ending : Bool) → a.id ≡ h → with_ending ending a.face ≢ a.face
    → LeadsAt h (tree a kids nil) n (Break h ending ∷ []) (tree (record { id = a.id; face = with_ending ending a.face }) kids nil) n
at_break h a kids n ending id other w w_is next there is =
    at_op h n (Break h ending) _ w next
    (does_change (Break h ending) h (with_ending ending) a kids w (is_here h a kids w id w_is there is) (sym (fits_write (is_break ending) w) ∙ there)
    (effect_break h ending w) other (λ x. x))

-- ---- one of the host's children, taken out or placed anew

pub record IsChild (h c : ℕ) (kids : Trees Host) (w : HostTree) : Type 0 where
  pub other : h ≢ c
  pub once : count c w.hosts ≡ 1
  pub some : 0 < count c kids
  pub outside : count c (without h w.hosts) ≡ 0

pub some_among : (c : ℕ) (kids : Trees Host) → is_among c (ids_of kids) ≡ true → 0 < count c kids
some_among c kids among = grind (arith, among, spots.is_among-names id_of kids c)

is_child : (h c : ℕ) (a : Host) (kids : Trees Host) (w : HostTree) → IsHere h a kids w → is_among c (ids_of kids) ≡ true → IsChild h c kids w
is_child h c a kids w p among =
    let some = some_among c kids among in
    let other : h ≢ c = λ e. omega (arith, some, p.apart, ap (λ q. count q kids) e) in
    let own : count c (tree a kids nil) ≡ count c kids = rw (ne_eqb a.id c (λ e. other (sym p.id ∙ e))) (omega arith) in
    let part : count c (alone h w.hosts) ≡ count c kids = ap (count c) p.is ∙ own in
    record {
      other = other;
      once = omega (arith, some, part, p.numbered.once c, count-without-alone c h w.hosts);
      some = some;
      outside = omega (arith, some, part, p.numbered.once c, count-without-alone c h w.hosts);
    }

child_differs : (h c : ℕ) (a : Host) (kids : Trees Host) (w : HostTree) → IsHere h a kids w → IsChild h c kids w → eqb a.id c ≡ false
child_differs h c a kids w p k = ne_eqb a.id c (λ e. k.other (sym p.id ∙ e))

alone_child : (h c : ℕ) (a : Host) (kids : Trees Host) (w : HostTree) → IsHere h a kids w → IsChild h c kids w → alone c w.hosts ≡ alone c kids
alone_child h c a kids w p k =
    sym (subtrees.alone-alone id_of c h w.hosts k.outside) ∙ ap (alone c) p.is
    ∙ rw (child_differs h c a kids w p k) (joined-nil (alone c kids))

without_child : (h c : ℕ) (a : Host) (kids : Trees Host) (w : HostTree) → IsHere h a kids w → IsChild h c kids w
    → without c w.hosts ≡ replaced h (tree a (without c kids) nil) w.hosts
without_child h c a kids w p k =
    let is : without c (tree a kids nil) ≡ tree a (without c kids) nil = rw (child_differs h c a kids w p k) refl in
    done_here c h (without c) a kids _ w p (record { through = without-joined c; absent = without-absent c; other = λ x below rest e. rw e refl }) k.outside is

fits_drop : (c : ℕ) (w : HostTree) → c ≢ 0 → has c w.hosts ≡ true → fits (Drop c) w ≡ true
unfolding fits
fits_drop c w nonzero there = rw (ne_eqb c 0 nonzero, there) refl

pub at_leave : (h : ℕ) (a : Host) (kids : Trees Host) (n c : ℕ) → a.id ≡ h → c ≢ 0 → is_among c (ids_of kids) ≡ true
    → LeadsAt h (tree a kids nil) n (Drop c ∷ []) (tree a (without c kids) nil) n
at_leave h a kids n c id nonzero among w w_is next there is =
    let p = is_here h a kids w id w_is there is in
    let k = is_child h c a kids w p among in
    let same = without_child h c a kids w p k in
    at_op h n (Drop c) (tree a (without c kids) nil) w next (record {
      fit = fits_drop c w nonzero (has_if c w.hosts (omega (arith, k.once)));
      is = ap (λ t. host_tree t w.next) (sym same) ∙ effect_drop c w;
      numbered = numbered_less w _ w_is (λ q. omega (arith, ap (count q) same, count-without-alone q c w.hosts));
      anew = tt;
    })

-- new trees put among the children
put_here : (h : ℕ) (a : Host) (kids : Trees Host) (before : Option ℕ) (new t : Trees Host) → a.id ≡ h → count h t ≡ 1 → alone h t ≡ tree a kids nil
    → put_below h before new t ≡ replaced h (tree a (inserted before new kids) nil) t
put_here h a kids before new t id once is =
    let own : put_below h before new (tree a kids nil) ≡ tree a (inserted before new kids) nil = rw (eq-eqb a.id h id) refl in
    inside h h (put_below h before new) t
    (record { through = put_below-joined h before new; absent = put_below-absent h before new; other = λ x below rest e. rw e refl }) once
    (trees.count-without id_of h t)
    ∙ ap (λ b. replaced h b t) (ap (put_below h before new) is ∙ own)

-- the child taken out, and put back among those that are left
placed_child : (h c : ℕ) (before : Option ℕ) (a : Host) (kids : Trees Host) (w : HostTree) → IsHere h a kids w → IsChild h c kids w
    → put_below h before (alone c w.hosts) (without c w.hosts) ≡ replaced h (tree a (inserted before (alone c kids) (without c kids)) nil) w.hosts
placed_child h c before a kids w p k =
    let left = tree a (without c kids) nil in
    let to = tree a (inserted before (alone c kids) (without c kids)) nil in
    let hosts = replaced h left w.hosts in
    let at : IsAt h left = record { host = a; below = without c kids; is = refl; id = p.id } in
    let once : count h hosts ≡ 1 =
    omega (
      arith,
      ap (count h) (sym (without_child h c a kids w p k)),
      count-without-alone h c w.hosts,
      p.once,
      p.apart,
      ap (count h) (alone_child h c a kids w p k),
      count-without-alone h c kids,
    ) in
    let inner : replaced h to left ≡ to = rw (eq-eqb a.id h p.id) refl in
    ap (λ new. put_below h before new (without c w.hosts)) (alone_child h c a kids w p k)
    ∙ ap (put_below h before (alone c kids)) (without_child h c a kids w p k)
    ∙ put_here h a (without c kids) before (alone c kids) hosts p.id once (alone_at h left w.hosts at p.once)
    ∙ replaced-twice h left to w.hosts inner

fits_place : (parent child : ℕ) (before : Option ℕ) (w : HostTree) → child ≢ 0 → has child w.hosts ≡ true → has parent w.hosts ≡ true
    → has parent (alone child w.hosts) ≡ false → fits_before child before (children_of parent w.hosts) ≡ true
    → fits (Place parent child before) w ≡ true
unfolding fits
fits_place parent child before w nonzero child_in parent_in apart place = rw (ne_eqb child 0 nonzero, child_in, parent_in, apart, place) refl

pub at_place : (h : ℕ) (a : Host) (kids : Trees Host) (n c : ℕ) (before : Option ℕ) → a.id ≡ h → c ≢ 0 → is_among c (ids_of kids) ≡ true
    → fits_before c before (ids_of kids) ≡ true
    → LeadsAt h (tree a kids nil) n (Place h c before ∷ []) (tree a (inserted before (alone c kids) (without c kids)) nil) n
at_place h a kids n c before id nonzero among place w w_is next there is =
    let p = is_here h a kids w id w_is there is in
    let k = is_child h c a kids w p among in
    let same = placed_child h c before a kids w p k in
    let apart : count h (alone c w.hosts) ≡ 0 = omega (arith, p.apart, ap (count h) (alone_child h c a kids w p k), count-without-alone h c kids) in
    let left : count h (without c w.hosts) ≡ 1 = omega (arith, apart, p.once, count-without-alone h c w.hosts) in
    at_op h n (Place h c before) (tree a (inserted before (alone c kids) (without c kids)) nil) w next (record {
      fit = fits_place h c before w nonzero (has_if c w.hosts (omega (arith, k.once))) there (has_not h (alone c w.hosts) apart)
          (ap (fits_before c before) (children_here h a kids w p) ∙ place);
      is = ap (λ t. host_tree t w.next) (sym same) ∙ effect_place h c before w;
      numbered =
          numbered_less w _ w_is
          (λ q. omega
          (arith, ap (count q) same, count-without-alone q c w.hosts, trees.count-put_below id_of q h before (alone c w.hosts) (without c w.hosts) left));
      anew = tt;
    })

-- ---- a new tree, put among the children

host_before : (h : ℕ) (a : Host) (kids : Trees Host) (w : HostTree) → IsHere h a kids w → h < w.next
host_before h a kids w p = grind (arith, p.once, p.numbered.below h)

free_below : (h : ℕ) (a : Host) (kids : Trees Host) (w : HostTree) → IsHere h a kids w → count w.next kids ≡ 0
free_below h a kids w p =
    omega (arith, ap (count w.next) p.is, count-without-alone w.next h w.hosts, p.numbered.below w.next (omega arith))

fits_new : (new : ℕ) (before : Option ℕ) (kids : Trees Host) → count new kids ≡ 0 → has_before before (ids_of kids) ≡ true
    → fits_before new before (ids_of kids) ≡ true
fits_new new None kids free place = refl
fits_new new (Some before) kids free place =
    rw (place, ne_eqb before new (λ e. omega (arith, free, some_among before kids place, ap (λ q. count q kids) e))) refl

-- with the new tree after all others, not placed yet
fits_made : (h : ℕ) (a : Host) (kids : Trees Host) (w : HostTree) (face : Face) (inner : Trees Host) (before : Option ℕ) (m : ℕ) → IsHere h a kids w
    → count w.next inner ≡ 0 → count h (host_over w.next face inner) ≡ 0 → has_before before (ids_of kids) ≡ true
    → fits (Place h w.next before) (host_tree (joined w.hosts (host_over w.next face inner)) m) ≡ true
fits_made h a kids w face inner before m p free_inside outside place =
    let free : count w.next w.hosts ≡ 0 = p.numbered.below w.next (omega arith) in
    created.fits_place h w.next before m face inner w.hosts (λ e. omega (arith, e, host_before h a kids w p)) free free_inside (omega (arith, p.once)) outside
    (ap (fits_before w.next before) (children_here h a kids w p) ∙ fits_new w.next before kids (free_below h a kids w p) place)

made_place : (h : ℕ) (a : Host) (kids : Trees Host) (w : HostTree) (face : Face) (inner : Trees Host) (before : Option ℕ) (m : ℕ) → IsHere h a kids w
    → host_tree (replaced h (tree a (inserted before (host_over w.next face inner) kids) nil) w.hosts) m
    ≡ effect (Place h w.next before) (host_tree (joined w.hosts (host_over w.next face inner)) m)
made_place h a kids w face inner before m p =
    ap (λ t. host_tree t m) (sym (put_here h a kids before (host_over w.next face inner) w.hosts p.id p.once p.is))
    ∙ created.effect_place h w.next before m face inner w.hosts (p.numbered.below w.next (omega arith))

numbered_made : (h : ℕ) (a : Host) (kids : Trees Host) (w : HostTree) (f : Forest) (before : Option ℕ) → IsHere h a kids w
    → IsNumbered (host_tree (replaced h (tree a (inserted before (numbered w.next (render f)) kids) nil) w.hosts) (w.next + total f))
numbered_made h a kids w f before p =
    let new = numbered w.next (render f) in
    let same = put_here h a kids before new w.hosts p.id p.once p.is in
    let counted = λ (q : ℕ). sym (ap (count q) same) ∙ trees.count-put_below id_of q h before new w.hosts p.once in
    record {
      once = λ q. grind
          (arith, counted q, p.numbered.once q, p.numbered.below q, count-numbered_before q w.next (render f), count-numbered q w.next (render f));
      below = λ q h. omega
          (arith, counted q, p.numbered.below q (omega (arith, h)), count-numbered_behind q w.next (render f) (omega (arith, h, total-render f)));
    }

-- at the id that is next
made_here : (h : ℕ) (a : Host) (kids : Trees Host) (w : HostTree) (label : Label) (below : Forest) (before : Option ℕ) → IsHere h a kids w
    → w.next + total (tree label below nil) ≤ last_u32 → has_before before (ids_of kids) ≡ true
    → Leads w (creation w.next label below ++ Place h w.next before ∷ [])
    (host_tree (replaced h (tree a (inserted before (numbered w.next (render (tree label below nil))) kids) nil) w.hosts)
    (w.next + total (tree label below nil)))
made_here h a kids w label below before p room place =
    let n = w.next in
    let m = n + total (tree label below nil) in
    let face = face_of label (last_kind below) in
    let inner = numbered (n + 1) (render below) in
    let new = host_over n face inner in
    let sum : n + 1 + total below ≡ m = omega arith in
    let outside : count h new ≡ 0 = count-numbered_before h n (render (tree label below nil)) (host_before h a kids w p) in
    let made =
    subst (λ m. Leads w (creation n label below) (host_tree (joined w.hosts new) m)) sum
    (created_alone n w.hosts label below p.numbered.below (omega (arith, room))) in
    let hosts = replaced h (tree a (inserted before new kids) nil) w.hosts in
    Leads-append (creation n label below) (Place h n before ∷ []) w (host_tree (joined w.hosts new) m) (host_tree hosts m) made (
      host_tree hosts m,
      fits_made h a kids w face inner before m p (count-numbered_before n (n + 1) (render below) (omega arith)) outside place,
      made_place h a kids w face inner before m p,
      refl,
    )

pub at_make : (h : ℕ) (a : Host) (kids : Trees Host) (n : ℕ) (label : Label) (below : Forest) (before : Option ℕ) → a.id ≡ h
    → n + total (tree label below nil) ≤ last_u32 → has_before before (ids_of kids) ≡ true
    → LeadsAt h (tree a kids nil) n (creation n label below ++ Place h n before ∷ [])
    (tree a (inserted before (numbered n (render (tree label below nil))) kids) nil) (n + total (tree label below nil))
at_make h a kids n label below before id room place w w_is next there is =
    let p = is_here h a kids w id w_is there is in
    let one = tree label below nil in
    let enough : w.next + total one ≤ last_u32 = omega (arith, room, next) in (
      subst (λ n. Leads w (creation n label below ++ Place h n before ∷ [])
          (host_tree (replaced h (tree a (inserted before (numbered n (render one)) kids) nil) w.hosts) (n + total one))) next (made_here h a kids w label below
          before p enough place),
      subst (λ n. IsNumbered (host_tree (replaced h (tree a (inserted before (numbered n (render one)) kids) nil) w.hosts) (n + total one))) next (numbered_made
          h a kids w one before p),
      creation_writes n label below h before w,
    )

-- ---- what is done at one of the children

pub at_inner : (h : ℕ) (a : Host) (kids : Trees Host) (n c : ℕ) (from : Trees Host) (ops : List Op) (to : Trees Host) (m : ℕ) → a.id ≡ h
    → is_among c (ids_of kids) ≡ true → alone c kids ≡ from
    → LeadsAt c from n ops to m → LeadsAt h (tree a kids nil) n ops (tree a (replaced c to kids) nil) m
at_inner h a kids n c from ops to m id among inner_is inner w w_is next there is =
    let p = is_here h a kids w id w_is there is in
    let k = is_child h c a kids w p among in
    let own : replaced c to (tree a kids nil) ≡ tree a (replaced c to kids) nil = rw (child_differs h c a kids w p k) refl in
    let same =
    done_here c h (replaced c to) a kids _ w p
    (record { through = replaced-joined c to; absent = replaced-absent c to; other = λ x below rest e. rw e refl }) k.outside own in
    let then = inner w w_is next (has_if c w.hosts (omega (arith, k.once))) (alone_child h c a kids w p k ∙ inner_is) in
    (subst (λ t. Leads w ops (host_tree t m)) same then.0, subst (λ t. IsNumbered (host_tree t m)) same then.1, then.2)

-- ---- a host tree where nothing is unplaced

pub at_whole : (v : HostTree) (ops : List Op) (to : Trees Host) (m : ℕ) → IsAt 0 v.hosts → IsNumbered v → LeadsAt 0 v.hosts v.next ops to m
    → Leads v ops (host_tree to m) × IsNumbered (host_tree to m) × AllWriteAnew v ops
at_whole v ops to m at v_is leads =
    let root : eqb at.host.id 0 ≡ true = eq-eqb at.host.id 0 at.id in
    let there : has 0 v.hosts ≡ true = has_if 0 v.hosts (subst (λ t. 0 < count 0 t) (sym at.is) (rw root (omega arith))) in
    let own : alone 0 v.hosts ≡ v.hosts = ap (alone 0) at.is ∙ rw root refl ∙ sym at.is in
    let all : replaced 0 to v.hosts ≡ to = ap (replaced 0 to) at.is ∙ rw root (joined-nil to) in
    let then = leads v v_is refl there own in
    (subst (λ t. Leads v ops (host_tree t m)) all then.0, subst (λ t. IsNumbered (host_tree t m)) all then.1, then.2)

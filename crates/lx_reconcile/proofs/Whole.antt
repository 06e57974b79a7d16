-- A node from its first operation to its last, and the root.
use Rattle.std.proofs.Common.{◌≡◌, ◌∙◌, ◌+◌, ◌*◌, ◌<◌, ◌≤◌, ℕ, Bool, true, false, List, [], ◌∷◌, ◌++◌, None, Some, option_map, refl, sym, ap, subst, arith, append_assoc, append-nil}
use Rattle.std.proofs.lemmas.Option.{same_Some}
use Rattle.lx_node.specs.Limits.{last_u32, last_u64}
use Rattle.lx_trees.specs.Trees.{nil, tree}
use Rattle.lx_trees.specs.NamedTrees.{total}
use Rattle.lx_node.specs.declared.kind.Kind.TheVariants.{Root}
use Rattle.lx_node.specs.declared.node.Node.{Node}
use Rattle.lx_node.specs.OfKind.{is_of_kind}
use Rattle.lx_host.specs.declared.tag.Tag.{Tag}
use Rattle.lx_host.specs.declared.op.Op.{Op}
use Rattle.lx_host.specs.Branches.{IsRooted}
use Rattle.lx_host.specs.Hosts.{Face, Host, HostTree, IsNumbered, with_ending}
use Rattle.lx_host.specs.Html.{first_tree}
use Rattle.lx_forest.specs.Forest.{Label, Forest}
use Rattle.lx_forest.specs.Lookups.{alone, has, label_of, children_of, trees_of, IsForest, kind_of}
use Rattle.lx_forest.specs.Records.{record_at}
use Rattle.lx_forest.specs.Views.{kind_at}
use Rattle.lx_forest.specs.Suited.{is_suited}
use Rattle.lx_forest.proofs.Edits.{has-root}
use Rattle.lx_links.specs.Stands.{node_of}
use Rattle.lx_forest.specs.Covered.{Marking}
use Rattle.lx_reconcile.specs.Covering.{AreCoveredByParents}
use Rattle.lx_reconcile.specs.Allowed.{Shows, hosts_of, unkept, marked_children, staying}
use Rattle.lx_render.specs.Render.{tag_of, attributes_of, text_of, face_of, last_kind, needs_break}
use Rattle.lx_reconcile.specs.declared.moves.Move.{Move}
use Rattle.lx_reconcile.specs.Allowing.{IsTree, IsAllowed}
use Rattle.lx_reconcile.specs.Changing.{Changes, shown_face}
use Rattle.lx_reconcile.specs.Making.{IsBetween, Reconciles, MakesMoves, AreComing}
use Rattle.lx_reconcile.specs.Reconciled.{host_in}
use Rattle.lx_reconcile.specs.ToCome.{IsInWalk}
use Rattle.lx_reconcile.specs.Walk.{IsPart}
use Rattle.lx_links.proofs.Read.{label_from, IsRead, is_read, there_read, tree_read, label_read}
use Rattle.lx_reconcile.proofs.Children.{stands_there, last_kind_read}
use Rattle.lx_reconcile.proofs.Due.{each_append}
use Rattle.lx_reconcile.proofs.Touched.{Due, last_same, writes_due}
use Rattle.std.proofs.Common.{cond, length}
use Rattle.lx_trees.specs.NamedTrees as named
use Rattle.lx_forest.specs.Lookups.{key_of, roots}
use Rattle.lx_forest.proofs.Lookups.{has-child}
use Rattle.lx_links.proofs.Placed.{parent_of-child}
use Rattle.lx_links.specs.Stands.{Sound}
use Rattle.lx_reconcile.specs.Reading.{reads_in, reads_below, most_reads}
use Rattle.lx_reconcile.proofs.Reading.{marked_children-total, weight, size_if, old_sizes_less, reads_less, roots_of}
use Rattle.lx_reconcile.proofs.Skipped.{skipped}
use Rattle.lx_reconcile.proofs.Texts.{none_of_kind}
use Rattle.lx_reconcile.proofs.UnkeptNodes.{unkept-below, unkept-total}
use Rattle.lx_reconcile.proofs.Made.{reads_still}
use Rattle.lx_reconcile.proofs.StartEnd.{only_host, is_shown_at, root_at, one_tree}
use Rattle.lx_reconcile.proofs.Walked.{walk_start, walk_face, walk_end, walk_whole}
use Rattle.lx_reconcile.proofs.Partly.{all_of, part_coming, part_makes}

-- ---- one node

-- a host that shows a face
abbrev showing : HostTree → ℕ → Face → Host
showing v k face = record { id = host_in v k; face = face }

host_same : (a : Host) (i : ℕ) (f : Face) → a.id ≡ i → a.face ≡ f → a ≡ record { id = i; face = f }
host_same a i f e g = rw (← e, ← g) refl

-- the end of the node's host before
abbrev old_end : Forest → ℕ → Node → Bool
old_end f k n = needs_break n.kind (last_kind (trees_of f (children_of f k)))

abbrev pub FaceChanges : ℕ → Node → Node → List Op → List Op → Type 0
FaceChanges h was now start end =
    (key : ℕ) (tag : Tag) (ending : Bool) → Changes h (shown_face key tag was.kind was.fields ending) (shown_face key tag now.kind now.fields ending) start end

module _ (old new : Forest) (mk : Marking) (v : HostTree) (k n : ℕ) (was now : Node) (b : IsBetween old new mk v)
    (was_is : Some was ≡ option_map node_of (record_at old k)) (now_is : Some now ≡ option_map node_of (record_at new k)) where
  before_read : IsRead old k was
  before_read = is_read old k was b.was_sound was_is

  after_read : IsRead new k now
  after_read = is_read new k now b.sound now_is

  abbrev first_face : Face
  first_face = shown_face k (tag_of was.kind was.fields) was.kind was.fields (old_end old k was)

  abbrev mid_face : Face
  mid_face = shown_face k (tag_of was.kind was.fields) now.kind now.fields (old_end old k was)

  -- its face is written, and its children are to come
  face_walk : {moves : List Move} (start end : List Op) → (p : IsPart mk.noted (children_of old k) (children_of new k) moves)
      → (c : Changes (host_in v k) first_face mid_face start end)
      → IsInWalk old new v k n c.pushed (showing v k mid_face) (all_of p) n
  face_walk start end p c =
      let s = is_shown_at old v k b.view.before b.view.shows b.view.numbered (there_read old k was before_read) in
      let same : s.host ≡ showing v k first_face =
      host_same s.host (host_in v k) first_face s.id (s.face (label_from k was) (trees_of old (children_of old k)) (tree_read old k was before_read)) in
      let begun : IsInWalk old new v k n [] (showing v k first_face) (all_of p) n =
      subst (λ a. IsInWalk old new v k n [] a (all_of p) n) same (walk_start b.view s p.walk) in
      walk_face c.pushed begun refl (λ kids. c.leads kids n)

  written : (h : ℕ) (start end : List Op) → h ≡ host_in v k → FaceChanges h was now start end → Changes (host_in v k) first_face mid_face start end
  written h start end id face = subst (λ i. Changes i first_face mid_face start end) id (face k (tag_of was.kind was.fields) (old_end old k was))

  -- then a part of its children is to come
  pub children_coming : {moves : List Move} (h : ℕ) (start end : List Op) → h ≡ host_in v k → v.next ≤ n
      → n + unkept old (Some k) (trees_of new (children_of new k)) ≤ last_u32
      → IsPart mk.noted (children_of old k) (children_of new k) moves → FaceChanges h was now start end → AreComing old new v k moves n
  children_coming {moves} h start end id behind room p face =
      let c = written h start end id face in
      part_coming old new mk v b k (children_of old k) (children_of new k) moves n p
      (record {
        from = n;
        ops = c.pushed;
        a = showing v k mid_face;
        walk = face_walk start end p c;
        behind = behind;
        room = room;
        there = there_read new k now after_read;
      })

  last_face : (ended : Bool) → tag_of was.kind was.fields ≡ tag_of now.kind now.fields → ended ≡ needs_break now.kind (kind_at new now.last)
      → with_ending ended mid_face ≡ face_of (label_from k now) (last_kind (trees_of new (children_of new k)))
  last_face ended tag is =
      let face : Tag → Bool → Face = λ t e. record { key = k; tag = t; attrs = attributes_of now.kind now.fields; text = text_of now.fields; ending = e } in
      ap (λ t. face t ended) tag
      ∙ ap (λ e. face (tag_of now.kind now.fields) e) (is ∙ sym (ap (needs_break now.kind) (last_kind_read new k now b.sound after_read)))

  kind_same : was.kind ≡ now.kind
  kind_same =
      let kinds : Some was.kind ≡ Some now.kind =
      sym (ap (option_map (λ (l : Label). l.kind)) (label_read old k was before_read))
      ∙ b.covered.kinds k (there_read old k was before_read) (there_read new k now after_read)
      ∙ ap (option_map (λ (l : Label). l.kind)) (label_read new k now after_read) in
      same_Some was.kind now.kind kinds

  -- a text stays one
  own_fields : (f : Forest) (n : Node) → Sound f → label_of f k ≡ Some (label_from k n) → is_of_kind n.kind n.fields ≡ true
  own_fields f n s at = sym (ap is_suited at) ∙ s.suited.each k

  pub text_stays : text_of now.fields ≡ None → text_of was.fields ≡ None
  text_stays none =
      none_of_kind was.kind was.fields now.fields (own_fields old was b.was_sound (label_read old k was before_read))
      (ap (λ kind. is_of_kind kind now.fields) kind_same ∙ own_fields new now b.sound (label_read new k now after_read)) none

  untouched_face : {one start : List Op} → mk.touched k ≡ false → (was.kind ≡ now.kind → was.fields ≡ now.fields → one ≡ start) → one ≡ start
  untouched_face plain same =
      let fields : Some was.fields ≡ Some now.fields =
      sym (ap (option_map (λ (l : Label). l.fields)) (label_read old k was before_read))
      ∙ (b.covered.alike k (there_read old k was before_read) (there_read new k now after_read) plain).fields
      ∙ ap (option_map (λ (l : Label). l.fields)) (label_read new k now after_read) in
      same kind_same (same_Some was.fields now.fields fields)

  untouched_end : mk.touched k ≡ false → (was_ended ended : Bool) → was_ended ≡ needs_break was.kind (kind_at old was.last)
      → ended ≡ needs_break now.kind (kind_at new now.last) → was_ended ≡ ended
  untouched_end plain was_ended ended was_is is =
      let children = (b.covered.alike k (there_read old k was before_read) (there_read new k now after_read) plain).children in
      let last : kind_at old was.last ≡ kind_at new now.last =
      ap (kind_at old) before_read.last ∙ last_same old new mk v k b.covered b.was_sound b.sound b children ∙ sym (ap (kind_at new) after_read.last) in
      was_is ∙ ap (λ x. needs_break x (kind_at old was.last)) kind_same ∙ ap (needs_break now.kind) last ∙ sym is

  pub node_done : {moves : List Move} (h : ℕ) (start one two end : List Op) (m : ℕ) (was_ended ended : Bool) → h ≡ host_in v k
      → tag_of was.kind was.fields ≡ tag_of now.kind now.fields
      → IsPart mk.noted (children_of old k) (children_of new k) moves
      → (was.kind ≡ now.kind → was.fields ≡ now.fields → one ≡ start) → FaceChanges h was now start one → MakesMoves old new mk v k moves n one two m
      → was_ended ≡ needs_break was.kind (kind_at old was.last) → ended ≡ needs_break now.kind (kind_at new now.last)
      → (was_ended ≡ ended → end ≡ two) → ((face : Face) → face.ending ≡ was_ended → Changes h face (with_ending ended face) two end)
      → Reconciles old new mk v k n start end m
  node_done {moves} h start one two end m was_ended ended id tag p same_face face part was_end end_is same_end ending =
      let c = written h start one id face in
      let first = face_walk start one p c in
      let made : MakesMoves old new mk v k (all_of p) n one two m =
      part_makes old new mk v b k (children_of old k) (children_of new k) moves n m one two p part in
      let second : IsInWalk old new v k n (c.pushed ++ made.pushed) (showing v k mid_face) [] m =
      made.leads n c.pushed (showing v k mid_face) []
      (subst (λ ms. IsInWalk old new v k n c.pushed (showing v k mid_face) ms n) (sym (append-nil (all_of p))) first) in
      let ends : old_end old k was ≡ was_ended = ap (needs_break was.kind) (last_kind_read old k was b.was_sound before_read) ∙ sym was_end in
      let d : Changes (host_in v k) mid_face (with_ending ended mid_face) two end =
      subst (λ i. Changes i mid_face (with_ending ended mid_face) two end) id (ending mid_face ends) in
      let third : IsInWalk old new v k n ((c.pushed ++ made.pushed) ++ d.pushed) (showing v k (with_ending ended mid_face)) [] m =
      walk_face d.pushed second refl (λ kids. d.leads kids m) in
      record {
        pushed = (c.pushed ++ made.pushed) ++ d.pushed;
        list =
            d.list
            ∙ ap (λ l. l ++ d.pushed) (made.list ∙ ap (λ l. l ++ made.pushed) c.list ∙ append_assoc start c.pushed made.pushed)
            ∙ append_assoc start (c.pushed ++ made.pushed) d.pushed;
        due = each_append (Due old new mk v) (c.pushed ++ made.pushed) d.pushed
            (each_append (Due old new mk v) c.pushed made.pushed
            (writes_due old new mk v k start one c.pushed b (there_read old k was before_read) c.list c.only (λ plain. untouched_face plain same_face))
            made.due)
            (writes_due old new mk v k two end d.pushed b (there_read old k was before_read) d.list d.only
            (λ plain. same_end (untouched_end plain was_ended ended was_end end_is)));
        done = walk_end b.view third (tree_read new k now after_read) (last_face ended tag end_is);
      }

pub node_shown : (old new : Forest) (mk : Marking) (v : HostTree) (k : ℕ) (was : Node) → IsBetween old new mk v
    → Some was ≡ option_map node_of (record_at old k) → hosts_of k v.hosts ≡ host_in v k ∷ []
node_shown old new mk v k was b was_is = only_host old v k b.view.before b.view.shows (there_read old k was (is_read old k was b.was_sound was_is))

pub node_less : (f g : Forest) (k : ℕ) → g ≡ f → 4 * total (alone k g) < 4 * total (alone k f) + 1
node_less f g k e = omega (arith, ap (λ f. total (alone k f)) e)

-- ---- the whole

pub is_tree : (f : Forest) → Sound f → (Sound f → roots f ≡ 0 ∷ []) → IsTree f
is_tree f s alone = record { sound = s; alone = alone s }

tree_ordered : (f : Forest) → IsTree f → IsForest f
tree_ordered nil t = absurd (let e = t.alone in cc)
tree_ordered (tree l below rest) t = t.sound.in_order (λ e. absurd (cc))

pub are_between : (old new : Forest) (mk : Marking) (v : HostTree) → AreCoveredByParents old new mk
    → ((q : ℕ) → mk.touched q ≡ true → mk.noted q ≡ true) → IsTree old → IsTree new → Shows v old → IsNumbered v
    → IsRooted v.hosts → IsBetween old new mk v
are_between old new mk v covered noted was is shows numbered rooted =
    let at = root_at v.hosts old (tree_ordered old was) (one_tree old (tree_ordered old was) was.alone) shows rooted in
    record {
      view = record { before = tree_ordered old was; after = tree_ordered new is; shows = shows; numbered = numbered; rooted = rooted };
      was_sound = was.sound;
      sound = is.sound;
      whole = ap first_tree at.is ∙ sym at.is;
      covered = covered;
      noted = noted;
    }

pub root_there : (f : Forest) → IsTree f → has 0 f ≡ true
root_there f t = has-root f (tree_ordered f t)

root_kind : (f : Forest) (k : ℕ) (n : Node) → k ≡ 0 → IsTree f → Some n ≡ option_map node_of (record_at f k) → n.kind ≡ Root
root_kind f k n e t read =
    let kinds : Some n.kind ≡ Some Root =
    sym (ap (option_map (λ (l : Label). l.kind)) (label_read f k n (is_read f k n t.sound read))) ∙ ap (kind_of f) e ∙ (tree_ordered f t).root in
    same_Some n.kind Root kinds

-- below the root no more than in all
pub root_unkept : (old f : Forest) → IsTree f → unkept old (Some 0) (trees_of f (children_of f 0)) ≤ unkept old None f
root_unkept old f t =
    let h = tree_ordered f t in
    let s = stands_there f 0 h (has-root f h) in
    omega (
      arith,
      ap (unkept old None) (sym (one_tree f h t.alone) ∙ s.tree_is),
      ap (λ q. unkept old (Some q) s.below) s.key,
      ap (unkept old (Some 0)) s.below_is,
      unkept-below old None s.label s.below,
    )

pub all_allowed : (old new : Forest) (mk : Marking) (v : HostTree) (start ops : List Op) (m : ℕ) → IsTree old → IsTree new → IsBetween old new mk v → start ≡ []
    → Reconciles old new mk v 0 v.next start ops m → IsAllowed old new mk v ops
all_allowed old new mk v start ops m was is b none r =
    let same : r.pushed ≡ ops = sym (r.list ∙ ap (λ l. l ++ r.pushed) none) in
    let done = walk_whole b.view was.alone is.alone r.done r.due in
    subst (IsAllowed old new mk v) same (record { hosts = done.0; next = m }, done.1)

-- ---- by what the code knows

pub root_same_tag : (old new : Forest) (k : ℕ) (was now : Node) → k ≡ 0 → IsTree old → IsTree new → Some was ≡ option_map node_of (record_at old k)
    → Some now ≡ option_map node_of (record_at new k) → tag_of was.kind was.fields ≡ tag_of now.kind now.fields
root_same_tag old new k was now e s t f g =
    ap (λ k. tag_of k was.fields) (root_kind old k was e s f) ∙ sym (ap (λ k. tag_of k now.fields) (root_kind new k now e t g))

-- how many reads go to the root and below it
pub root_reads : (old f : Forest) (noted : ℕ → Bool) → IsTree old → IsTree f → noted 0 ≡ true → 2 + reads_below old f noted 0 ≤ most_reads old f noted
root_reads old f noted was t marked =
    let h = tree_ordered f t in
    let s = stands_there f 0 h (has-root f h) in
    let whole : f ≡ tree s.label s.below nil = sym (one_tree f h t.alone) ∙ s.tree_is in
    let w = size_if noted (children_of old) in
    let kids : roots s.below ≡ children_of f 0 =
    ap roots s.below_is ∙ roots_of f (children_of f 0) h (λ c e. has-child f c 0 (parent_of-child f c 0 t.sound e)) in
    let below = reads_less old noted (Some 0) s.below in
    let here : noted s.label.key ≡ true = ap noted s.key ∙ marked in
    let own : cond (noted s.label.key) (length (roots s.below)) 0 ≡ length (children_of f 0) =
    ap (λ b. cond b (length (roots s.below)) 0) here ∙ ap length kids in
    let own_old : w s.label.key ≡ length (children_of old 0) =
    ap (λ b. cond b (length (children_of old s.label.key)) 0) here ∙ ap (λ q. length (children_of old q)) s.key in
    omega (
      arith,
      below,
      own,
      own_old,
      root_unkept old f t,
      old_sizes_less old f noted (tree_ordered old was) h,
      ap (marked_children noted) whole,
      ap (λ g. weight w (named.preorder key_of g)) whole,
      append-nil (named.preorder key_of s.below),
      ap (λ ks. weight w ks) (append-nil (named.preorder key_of s.below)),
      ap length kids,
      ap (unkept old (Some 0)) s.below_is,
      ap (reads_in old noted (Some 0)) s.below_is,
    )

pub reads_bound : (old old_now f f_now : Forest) (noted : ℕ → Bool) (k : ℕ) → k ≡ 0 → old_now ≡ old → f_now ≡ f → IsTree old → IsTree f → noted k ≡ true
    → 2 + reads_below old_now f_now noted k ≤ most_reads old f noted
reads_bound old old_now f f_now noted k e c d was t marked =
    omega (arith, root_reads old f noted was t (ap noted (sym e) ∙ marked), ap (reads_below old_now f_now noted) e, reads_still c d noted 0)

-- no sum is too large
pub bound_fits : (old f : Forest) (noted : ℕ → Bool) → IsTree old → IsTree f → most_reads old f noted < last_u64
bound_fits old f noted was t =
    omega (arith, marked_children-total (staying noted f) old, marked_children-total noted f, unkept-total old None f, was.sound.small, t.sound.small)

-- nothing is done where the root carries no mark
pub nothing_allowed : (old new : Forest) (mk : Marking) (v : HostTree) (k : ℕ) (ops : List Op) → k ≡ 0 → ops ≡ [] → IsTree old → IsTree new
    → IsBetween old new mk v → mk.noted k ≡ false → IsAllowed old new mk v ops
nothing_allowed old new mk v k ops e none was is b plain =
    all_allowed old new mk v ops ops v.next was is b none (skipped old new mk v b 0 v.next ops (root_there new is) (ap mk.noted (sym e) ∙ plain))

pub root_room : (v : HostTree) (old old_now f f_now : Forest) (k n : ℕ) → k ≡ 0 → n ≡ v.next → old_now ≡ old → f_now ≡ f → IsTree f
    → v.next + unkept old None f ≤ last_u32 → n + unkept old_now (Some k) (trees_of f_now (children_of f_now k)) ≤ last_u32
root_room v old old_now f f_now k n e is c d t room =
    omega (
      arith,
      room,
      is,
      root_unkept old f t,
      ap (λ k. unkept old_now (Some k) (trees_of f_now (children_of f_now k))) e,
      ap (λ f. unkept old_now (Some 0) (trees_of f (children_of f 0))) d,
      ap (λ o. unkept o (Some 0) (trees_of f (children_of f 0))) c,
    )

pub root_allowed : (old old_now new new_now : Forest) (mk : Marking) (v : HostTree) (k n : ℕ) (start ops : List Op) (m : ℕ) → k ≡ 0 → n ≡ v.next → start ≡ []
    → old_now ≡ old → new_now ≡ new → IsTree old → IsTree new → IsBetween old new mk v
    → Reconciles old_now new_now mk v k n start ops m → IsAllowed old new mk v ops
root_allowed old old_now new new_now mk v k n start ops m e is none a b s t w r =
    let there = subst (λ t. t) (λ i. Reconciles (a i) (b i) mk v k n start ops m) r in
    all_allowed old new mk v start ops m s t w none
    (subst (λ k. Reconciles old new mk v k v.next start ops m) e (subst (λ n. Reconciles old new mk v k n start ops m) is there))

-- What is pasted stands between: inlines at a point, and blocks around or after one.
use Rattle.std.proofs.Common.{◌≡◌, ◌≢◌, ◌∙◌, ℕ, eqb, List, [], ◌∷◌, ◌++◌, Option, None, Some, Result, Ok, refl, ap, sym, subst, append-nil, append_assoc, inl, inr}
use Rattle.lx_trees.specs.Siblings.{last_from, last_of}
use Rattle.lx_node.specs.declared.cause.Cause.{Cause}
use Rattle.lx_node.specs.declared.cause.Point.{Point}
use Rattle.lx_node.specs.declared.cause.PointKind.{PointKind}
use Rattle.lx_node.specs.declared.cause.PointKind.TheVariants as point
use Rattle.lx_forest.specs.Lookups.{alone, label_of, children_of, IsForest}
use Rattle.lx_draft.specs.Working.{Working}
use Rattle.lx_draft.specs.Faults.{after}
use Rattle.lx_draft.specs.Beside.{put_before_step, put_behind_step}
use Rattle.lx_draft.specs.Covering.{IsReady, AreCovered}
use Rattle.lx_draft.proofs.Covered.{covered-self, covered-then}
use Rattle.lx_edit.specs.Edits.{moved_to_end}
use Rattle.lx_edit.specs.InTurn.{in_turn}
use Rattle.lx_edit.proofs.Covered.{covered_path}
use Rattle.lx_edit.proofs.Paths.{ok, allowed}
use Rattle.std.proofs.lemmas.Bool.{cases_Bool}
use Rattle.lx_blocks.specs.Making.{new_like}
use Rattle.lx_caret.specs.Adding.{kind_around, opened, put_by}
use Rattle.lx_caret.specs.Removing.{removed_empty}
use Rattle.lx_caret.proofs.Fit.{after_tells}
use Rattle.lx_caret.proofs.Paths.{opened_path}
use Rattle.lx_caret.proofs.PathsOfTexts.{all_moved_path}
use Rattle.lx_caret.proofs.PathsOfParagraphs.{new_like_path}
use Rattle.lx_clip.specs.Pasting.{put_behind_each, caret_by, caret_after, no_room_for, put_all_by, nodes_added, Tailed, tail_made, tail_put, put_around, put_beyond}
use Rattle.lx_clip_laws.specs.Between.{StandBetween, IsPlaceOf, AreAdded, AreBeyond, key_if, AreAround}
use Rattle.lx_clip_laws.proofs.Between.{Came, came_then, put_came, put_behind_came, behind_each_came, behind_stands, before_stands, put_before_came, put_stands}

-- ---- said of what is left

caret_forest : (last : Option ℕ) (w : Working) → (caret_by last w).forest ≡ w.forest
caret_forest None w = refl
caret_forest (Some last) w = refl

left : (keys : List ℕ) (w v : Working) → ◌≡◌ {A = Result Working Cause} (Ok (caret_after keys w)) (Ok v) → v.forest ≡ w.forest
left keys w v e = let same = caret_forest (last_of keys) w in cc

stand : (p : ℕ) (before keys rest : List ℕ) (w u v : Working) → Came p before keys rest w u → v.forest ≡ u.forest → StandBetween p before keys rest w v
stand p before keys rest w u v a same = record {
  was = a.was;
  now = ap (λ f. children_of f p) same ∙ a.now;
  others = λ q other. ap (λ f. children_of f q) same ∙ a.others q other;
  labels = λ q. ap (λ f. label_of f q) same ∙ a.labels q;
  trees = λ k among. ap (alone k) same ∙ a.trees k (a.outside k among);
}

-- ---- inlines

-- a node came where a point says
record CameBy (p : Point) (kind : PointKind) (k : ℕ) (w v : Working) : Type 0 where
  parent : ℕ
  before : List ℕ
  rest : List ℕ
  place : IsPlaceOf p kind parent before rest
  came : Came parent before (k ∷ []) rest w v

last_ends : (o : Option ℕ) (xs : List ℕ) (x : ℕ) → last_from o (xs ++ (x ∷ [])) ≡ Some x
last_ends o [] x = refl
last_ends o (y ∷ xs) x = last_ends (Some y) xs x

came_by : (k : ℕ) (p : Point) (kind : PointKind) (w v : Working) → IsReady w → put_by k p kind w ≡ Ok v → CameBy p kind k w v
came_by k p point.Element w v ready e =
    let s = put_stands k p.key p.offset w v e in
    record {
      parent = p.key;
      before = s.before;
      rest = s.behind;
      place = (refl, s.so_many);
      came = put_came k p.key p.offset s.before s.behind w v ready s.are s.so_many e;
    }
came_by k p point.Text w v ready e = elim (cases_Bool (eqb p.offset 0)) [
  | inl is ↦
      let put : put_before_step k p.key w ≡ Ok v = rw is at e in
      let s = before_stands k p.key w v put in
      record { parent = s.parent; before = s.before; rest = p.key ∷ s.behind; place = rw is refl; came = put_before_came k p.key w v s ready put }
  | inr is ↦
      let put : put_behind_step k p.key w ≡ Ok v = rw is at e in
      let s = behind_stands k p.key w v put in
      record {
        parent = s.parent;
        before = s.before ++ (p.key ∷ []);
        rest = s.behind;
        place = rw is (last_ends None s.before p.key);
        came = put_behind_came k s.parent p.key s.before s.behind w v ready s.are put;
      }
]

-- the other nodes after the first
added_came : (p : Point) (k : ℕ) (ks : List ℕ) (w u v : Working) (c : CameBy p p.kind k w u) → put_behind_each k ks u ≡ Ok v
    → Came c.parent c.before (k ∷ ks) c.rest w v
added_came p k ks w u v c e =
    came_then c.parent c.before (k ∷ []) ks c.rest w u v c.came (behind_each_came ks c.parent k c.before c.rest u v c.came.covered.ready c.came.now e)

pub inlines_between : (p : Point) (keys : List ℕ) (w v : Working) → IsReady w → keys ≢ [] → nodes_added p keys w ≡ Ok v → AreAdded p keys w v
unfolding nodes_added
inlines_between p [] w v ready some e = absurd (some refl)
inlines_between p (k ∷ ks) w v ready some e =
    let keys : List ℕ = k ∷ ks in
    let put : Working → Result Working Cause = λ split. after (put_all_by p keys split) (λ put. Ok (caret_after keys put)) in
    let one =
    allowed (λ w v. (u : Working) × ((opened p w ≡ Ok u) × (put u ≡ Ok v))) w v (no_room_for w.forest keys (kind_around w.forest p.key p.kind))
    (λ u. after (opened p u) put) (λ e. after_tells (opened p w) put v e) e in
    let split : Working = one.0 in
    let two = after_tells (put_all_by p keys split) (λ put. Ok (caret_after keys put)) v one.1.1 in
    let first = after_tells (put_by k p p.kind split) (put_behind_each k ks) two.0 two.1.0 in
    let way = opened_path covered_path p w split ready one.1.0 in
    let c = came_by k p p.kind split first.0 way.ready first.1.0 in
    let forest : v.forest ≡ (two.0).forest = left keys two.0 v two.1.1 in
    record {
      split = split;
      made_way = one.1.0;
      parent = c.parent;
      before = c.before;
      rest = c.rest;
      place = c.place;
      between = stand c.parent c.before keys c.rest split two.0 v (added_came p k ks split first.0 two.0 c first.1.1) forest;
    }

-- ---- blocks

-- nodes came right after another
record CameBehind (outer : ℕ) (keys : List ℕ) (w v : Working) : Type 0 where
  parent : ℕ
  before : List ℕ
  rest : List ℕ
  came : Came parent (before ++ (outer ∷ [])) keys rest w v

came_behind : (outer k : ℕ) (ks : List ℕ) (w v : Working) → IsReady w → put_behind_each outer (k ∷ ks) w ≡ Ok v → CameBehind outer (k ∷ ks) w v
unfolding put_behind_each
came_behind outer k ks w v ready e =
    let one = after_tells (put_behind_step k outer w) (put_behind_each k ks) v e in
    let s = behind_stands k outer w one.0 one.1.0 in
    record { parent = s.parent; before = s.before; rest = s.behind; came = behind_each_came (k ∷ ks) s.parent outer s.before s.behind w v ready s.are e }

beyond : (outer : ℕ) (keys : List ℕ) (w u v : Working) → CameBehind outer keys w u → v.forest ≡ u.forest → AreBeyond outer keys w v
beyond outer keys w u v c same =
    record { parent = c.parent; before = c.before; rest = c.rest; between = stand c.parent (c.before ++ (outer ∷ [])) keys c.rest w u v c.came same }

pub beyond_between : (outer : ℕ) (keys : List ℕ) (w v : Working) → IsReady w → keys ≢ [] → put_beyond outer keys w ≡ Ok v → AreBeyond outer keys w v
unfolding put_beyond
beyond_between outer [] w v ready some e = absurd (some refl)
beyond_between outer (k ∷ ks) w v ready some e =
    let keys : List ℕ = k ∷ ks in
    let one = after_tells (put_behind_each outer keys w) (λ u. Ok (caret_after keys u)) v e in
    beyond outer keys w one.0 v (came_behind outer k ks w one.0 ready one.1.0) (left keys one.0 v one.1.1)

-- the last of several, and those before it
record HasLast (xs : List ℕ) : Type 0 where
  front : List ℕ
  end : ℕ
  all : xs ≡ front ++ (end ∷ [])
  is : last_of xs ≡ Some end

has_last : (x : ℕ) (xs : List ℕ) → HasLast (x ∷ xs)
has_last x [] = record { front = []; end = x; all = refl; is = refl }
has_last x (y ∷ ys) =
    let l = has_last y ys in
    record { front = x ∷ l.front; end = l.end; all = ap (λ zs. x ∷ zs) l.all; is = l.is }

-- the new block after the last of the nodes
tail_came : (outer k : ℕ) (ks : List ℕ) (tail : Option ℕ) (w u v : Working) → CameBehind outer (k ∷ ks) w u → tail_put tail (last_of (k ∷ ks)) u ≡ Ok v
    → CameBehind outer ((k ∷ ks) ++ key_if tail) w v
tail_came outer k ks None w u v c e =
    ok (CameBehind outer ((k ∷ ks) ++ [])) w u v (subst (λ xs. CameBehind outer xs w u) (sym (append-nil (k ∷ ks))) c) e
tail_came outer k ks (Some new) w u v c e =
    let keys : List ℕ = k ∷ ks in
    let l = has_last k ks in
    let step : put_behind_step new l.end u ≡ Ok v = sym (ap (λ o. tail_put (Some new) o u) l.is) ∙ e in
    let start : List ℕ = c.before ++ (outer ∷ []) in
    let are : children_of u.forest c.parent ≡ (start ++ l.front) ++ (l.end ∷ c.rest) =
    c.came.now ∙ ap (λ xs. start ++ (xs ++ c.rest)) l.all ∙ ap (λ xs. start ++ xs) (append_assoc l.front (l.end ∷ []) c.rest)
    ∙ sym (append_assoc start l.front (l.end ∷ c.rest)) in
    let last : Came c.parent ((start ++ l.front) ++ (l.end ∷ [])) (new ∷ []) c.rest u v =
    put_behind_came new c.parent l.end (start ++ l.front) c.rest u v c.came.covered.ready are step in
    let place : (start ++ l.front) ++ (l.end ∷ []) ≡ start ++ keys = append_assoc start l.front (l.end ∷ []) ∙ ap (λ xs. start ++ xs) (sym l.all) in
    record {
      parent = c.parent;
      before = c.before;
      rest = c.rest;
      came = came_then c.parent start keys (new ∷ []) c.rest w u v c.came (subst (λ xs. Came c.parent xs (new ∷ []) c.rest u v) place last);
    }

tail_covered : (block : ℕ) (moved : List ℕ) (w : Working) (t : Tailed) → IsReady w → tail_made block moved w ≡ Ok t → AreCovered w t.draft
tail_covered block [] w t ready e = let same : w ≡ t.draft = cc in subst (AreCovered w) same (covered-self w ready)
tail_covered block (k ∷ ks) w t ready e =
    let all : Working → Result Working Cause = in_turn (moved_to_end w.next_key) (k ∷ ks) in
    let left : Working → Result Tailed Cause = λ v. Ok (record { draft = v; key = Some w.next_key }) in
    let one = after_tells (new_like (label_of w.forest block) w) (λ made. after (all made) left) t e in
    let two = after_tells (all one.0) left t one.1.1 in
    let first = new_like_path covered_path (label_of w.forest block) w one.0 ready one.1.0 in
    let moved = all_moved_path covered_path w.next_key (k ∷ ks) one.0 two.0 first.ready two.1.0 in
    let is = two.1.1 in
    let same : two.0 ≡ t.draft = cc in
    subst (AreCovered w) same (covered-then w one.0 two.0 first moved)

-- all goes as it is said, and leaves a forest in order
pub record IsAround (block : ℕ) (keys moved : List ℕ) (w v : Working) : Type 0 where
  pub said : AreAround block keys moved w v
  pub order : IsForest (said.put).forest

pub around_between : (block : ℕ) (keys moved : List ℕ) (w v : Working) → IsReady w → keys ≢ [] → put_around block keys moved w ≡ Ok v
    → IsAround block keys moved w v
unfolding put_around
around_between block [] moved w v ready some e = absurd (some refl)
around_between block (k ∷ ks) moved w v ready some e =
    let keys : List ℕ = k ∷ ks in
    let close : Working → Result Working Cause = λ x. removed_empty block (caret_after keys x) in
    let one =
    after_tells (tail_made block moved w) (λ t. after (put_behind_each block keys t.draft) (λ put. after (tail_put t.key (last_of keys) put) close)) v e in
    let t : Tailed = one.0 in
    let two = after_tells (put_behind_each block keys t.draft) (λ put. after (tail_put t.key (last_of keys) put) close) v one.1.1 in
    let three = after_tells (tail_put t.key (last_of keys) two.0) close v two.1.1 in
    let c = came_behind block k ks t.draft two.0 (tail_covered block moved w t ready one.1.0).ready two.1.0 in
    let d = tail_came block k ks t.key t.draft two.0 three.0 c three.1.0 in
    let same : (caret_after keys three.0).forest ≡ (three.0).forest = caret_forest (last_of keys) three.0 in
    record {
      said = record {
        tailed = t;
        parted = one.1.0;
        put = caret_after keys three.0;
        beyond = beyond block (keys ++ key_if t.key) t.draft three.0 (caret_after keys three.0) d same;
        last = three.1.1;
      };
      order = subst IsForest (sym same) d.came.covered.ready.in_order;
    }

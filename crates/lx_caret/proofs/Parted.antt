-- Nodes that are parted on the way up to a block.
use Rattle.std.proofs.Common.{◌≡◌, ◌∙◌, ℕ, Bool, true, List, [], ◌∷◌, drop, Option, None, Some, Result, Ok, Err, refl, ap, subst}
use Rattle.lx_node.specs.Kinds.{is_text_block}
use Rattle.lx_node.specs.declared.kind.Kind.{Kind}
use Rattle.lx_node.specs.declared.cause.Cause.{Cause}
use Rattle.lx_node.specs.declared.cause.Point.{Point}
use Rattle.lx_forest.specs.Forest.{Forest, Label}
use Rattle.lx_forest.specs.Lookups.{label_of, kind_of, children_of, index_of}
use Rattle.lx_draft.specs.Working.{Working}
use Rattle.lx_draft.specs.Faults.{after}
use Rattle.lx_draft.specs.Beside.{put_behind_step}
use Rattle.lx_draft.specs.Covering.{IsReady, AreCovered, KindsStay}
use Rattle.lx_edit.specs.Edits.{moved_to_end}
use Rattle.lx_edit.specs.Texts.{split_step}
use Rattle.lx_edit.specs.InTurn.{in_turn}
use Rattle.lx_edit.proofs.Paths.{IsPath, Leads, self, then, ok, if_, every, put_behind_path, moved_to_end_path, split_path}
use Rattle.lx_edit.proofs.Covered.{covered_path}
use Rattle.lx_blocks.specs.Blocks.{is_at, passes}
use Rattle.lx_caret.specs.Adding.{is_inside}
use Rattle.lx_blocks.specs.Making.{new_like}
use Rattle.lx_caret.specs.Paragraphs.{place_of, cut_open, parted_at, link_parted, Parted, parted_up}

-- ---- what holds of each step

new_like_path : {D : Working → Type 0} {R : Working → Working → Type 0} {P : ℕ → Type 0} → IsPath D R P → (l : Option Label) → Leads D R (new_like l)
new_like_path {R = R} path None w v r e = ok R w w v (self path w r) e
new_like_path path (Some l) w v r e = path.new l.kind l.fields w v r e

parted_at_path : {D : Working → Type 0} {R : Working → Working → Type 0} {P : ℕ → Type 0} → IsPath D R P → ((q : ℕ) → P q) → (k index : ℕ)
    → Leads D R (parted_at k index)
unfolding parted_at
parted_at_path path may k index w v r e =
    then path w v (new_like (label_of w.forest k) w)
    (λ made. after (put_behind_step w.next_key k made) (in_turn (moved_to_end w.next_key) (drop index (children_of w.forest k))))
    (λ u f. new_like_path path (label_of w.forest k) w u r f)
    (λ u a f. then path u v (put_behind_step w.next_key k u) (in_turn (moved_to_end w.next_key) (drop index (children_of w.forest k)))
    (λ x g. put_behind_path path w.next_key k (may w.next_key) u x (path.ready w u a) g)
    (λ x b g. every path (moved_to_end w.next_key) (drop index (children_of w.forest k)) (λ q. moved_to_end_path path w.next_key q (may q)) x v
    (path.ready u x b) g) f) e

link_parted_path : {D : Working → Type 0} {R : Working → Working → Type 0} {P : ℕ → Type 0} → IsPath D R P → ((q : ℕ) → P q) → (k index : ℕ)
    → Leads D R (link_parted k index)
unfolding link_parted
link_parted_path path may k index w v r e = if_ path _ (parted_at k index) w v r (parted_at_path path may k index) e

then_parted : {D : Working → Type 0} {R : Working → Working → Type 0} {P : ℕ → Type 0} → IsPath D R P
    → (w : Working) (parted : Parted) (r : Result Working Cause) (next : Working → Result Parted Cause) → ((u : Working) → r ≡ Ok u → R w u)
    → ((u : Working) → R w u → next u ≡ Ok parted → R u parted.draft) → after r next ≡ Ok parted → R w parted.draft
then_parted path w parted (Ok u) next first second e = let a = first u refl in path.composed w u parted.draft a (second u a e)
then_parted path w parted (Err cause) next first second e = absurd (cc)

pub parted_up_path : {D : Working → Type 0} {R : Working → Working → Type 0} {P : ℕ → Type 0} → IsPath D R P → ((q : ℕ) → P q)
    → (ks : List ℕ) (index : ℕ) (w : Working) (parted : Parted) → D w → parted_up ks index w ≡ Ok parted → R w parted.draft
unfolding parted_up
parted_up_path {R = R} path may [] index w parted r e =
    let here : Parted = record { draft = w; index = index } in
    let f : ◌≡◌ {A = Result Parted Cause} (Ok here) (Ok parted) = e in
    let is : here ≡ parted = cc in
    subst (λ (x : Parted). R w x.draft) is (self path w r)
parted_up_path path may (k ∷ above) index w parted r e =
    then_parted path w parted (link_parted k index w) (λ u. parted_up above (place_of (index_of u.forest k) index) u)
    (λ u f. link_parted_path path may k index w u r f)
    (λ u a f. parted_up_path path may above (place_of (index_of u.forest k) index) u parted (path.ready w u a) f) e

pub cut_open_path : {D : Working → Type 0} {R : Working → Working → Type 0} {P : ℕ → Type 0} → IsPath D R P → ((q : ℕ) → P q) → (p : Point)
    → Leads D R (cut_open p)
cut_open_path path may p w v r e =
    if_ path (is_inside w.forest p p.kind) (split_step p.key (p.offset ∷ [])) w v r
    (λ x y s f. split_path path p.key (p.offset ∷ []) x y s (λ q among. may q) f) e

-- ---- a block stays one

passed_still : (test : Kind → Bool) (f g : Forest) (k : ℕ) (o : Option Kind) → KindsStay f g → kind_of f k ≡ o → passes test o ≡ true
    → passes test (kind_of g k) ≡ true
passed_still test f g k None stay is so = absurd (cc)
passed_still test f g k (Some kind) stay is so = ap (passes test) (stay.each k kind is) ∙ so

pub is_still : (test : Kind → Bool) (f g : Forest) (k : ℕ) → KindsStay f g → is_at test f k ≡ true → is_at test g k ≡ true
is_still test f g k stay so = passed_still test f g k (kind_of f k) stay refl so

pub block_stays : (b : ℕ) (p : Point) (ks : List ℕ) (index : ℕ) (w v : Working) (parted : Parted) → IsReady w → is_at is_text_block w.forest b ≡ true
    → cut_open p w ≡ Ok v → parted_up ks index v ≡ Ok parted
    → is_at is_text_block parted.draft.forest b ≡ true
block_stays b p ks index w v parted ready so cut e =
    let a : AreCovered w v = cut_open_path covered_path (λ q. tt) p w v ready cut in
    let c : AreCovered v parted.draft = parted_up_path covered_path (λ q. tt) ks index v parted a.ready e in
    is_still is_text_block v.forest parted.draft.forest b c.kinds (is_still is_text_block w.forest v.forest b a.kinds so)

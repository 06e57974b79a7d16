-- Lines that become paragraphs before their list: each paragraph has the inline children of its line.
use Rattle.std.proofs.Common.{◌≡◌, ◌≢◌, ◌∙◌, ℕ, Bool, true, false, cond, eqb, not, ◌&&◌, List, [], ◌∷◌, ◌++◌, Some, Ok, refl, sym, ap, ap₂, subst, arith, inl, inr}
use Rattle.std.specs.Prelude.{is_some}
use Rattle.std.specs.List.{filter}
use Rattle.std.proofs.lemmas.Bool.Decides.{eqb_tells}
use Rattle.lx_trees.specs.Siblings.{is_among, NoRepeats, names_with}
use Rattle.lx_node.specs.Kinds.{may_hold, is_inline, is_item, is_list, is_text}
use Rattle.lx_node.specs.Plain.{plain_element}
use Rattle.lx_node.specs.declared.kind.Kind.{Kind}
use Rattle.lx_node.specs.declared.kind.Kind.TheVariants as kinds
use Rattle.lx_node.specs.declared.kind.Kind.TheVariants.{Paragraph}
use Rattle.lx_trees.proofs.Siblings.{is_among-names_with}
use Rattle.lx_select.specs.Rules.{moved_to}
use Rattle.lx_forest.specs.Forest.{Forest}
use Rattle.lx_forest.specs.Lookups.{has, kind_of, parent_of, children_of, holds, IsForest, IsHeld}
use Rattle.lx_forest.proofs.Lookups.{NoRepeats-children_of, parent_of-self, has-child, has-parent_of}
use Rattle.lx_links.proofs.Detached.{is_among-filter, NoRepeats-filter}
use Rattle.lx_draft.specs.Working.{Working}
use Rattle.lx_draft.specs.Covering.{KindsStay}
use Rattle.lx_draft.specs.Faults.{after}
use Rattle.lx_draft.specs.Steps.{new_step}
use Rattle.lx_draft.specs.Beside.{put_before_step}
use Rattle.lx_draft.proofs.Gaps.{parent_here}
use Rattle.lx_draft.proofs.Touched.{is_some-kind_of}
use Rattle.lx_edit.specs.InTurn.{in_turn}
use Rattle.lx_edit.specs.Edits.{pointed, element_point, moved_to_end}
use Rattle.lx_edit.proofs.Climbed.{first_part}
use Rattle.lx_edit.proofs.Paths.{from_, points, every, put_before_path, moved_to_end_path}
use Rattle.lx_blocks.specs.Blocks.{passes, is_at}
use Rattle.lx_list.specs.Dissolving.{emptied_into, paragraph_made}
use Rattle.lx_list.proofs.Itemless.{there_at}
use Rattle.lx_edit_laws.specs.Reading.{read_below}
use Rattle.lx_edit_laws.proofs.Reading.{reads_of, reads-same, read-level, absent, reads_known, kind_known}
use Rattle.lx_edit_laws.proofs.WrapTrees.{not_child}
use Rattle.lx_edit_laws.proofs.WrapTurns.{WentOver, went_over}
use Rattle.lx_edit_laws.proofs.WrapLists.{names_with-none, names_with-twice}
use Rattle.lx_edit_laws.proofs.WrapSteps.{was_same}
use Rattle.lx_list_laws.specs.Reading.{IsSoundDraft}
use Rattle.lx_list_laws.proofs.ReadOrder.{filter-same, filter-others}
use Rattle.lx_list_laws.proofs.ReadForests.{AreTold, reads_told, CameNew, came_here, came_elsewhere, came_empty}
use Rattle.lx_list_laws.proofs.ReadOver.{told_over}
use Rattle.lx_list_laws.proofs.ReadSound.{StaysSound, stays_then, stays_selected, sound_path}
use Rattle.lx_list_laws.proofs.ReadEdits.{born_at, kinds_born, kinds_went}

-- the inline children of a node, and the others
abbrev pub inlines : Forest → ℕ → List ℕ
inlines f k = filter (is_at is_inline f) (children_of f k)

abbrev pub rest_of : Forest → ℕ → List ℕ
rest_of f k = filter (λ q. not (is_at is_inline f q)) (children_of f k)

-- what is read of the inline children of lines, one line after another
abbrev pub said : Forest → List ℕ → List ℕ
said f [] = []
said f (l ∷ ls) = reads_of f (inlines f l) ++ said f ls

pub among_inlines : (f : Forest) (k q : ℕ) → is_among q (inlines f k) ≡ true → is_at is_inline f q ≡ true
among_inlines f k q among = grind (arith, is_among-filter (is_at is_inline f) q (children_of f k), among)

-- ---- what is in an inline node is inline

inline_holds : (outer inner : Kind) → is_inline outer ≡ true → may_hold outer inner ≡ true → is_inline inner ≡ true
unfolding is_inline may_hold
inline_holds kinds.Link inner is h = grind (arith, h)
inline_holds outer inner is h = absurd (cc)

-- what is so of two kinds of which the first may hold the second is so of a parent's kind and a child's
pub both_kinds : (P : Kind → Kind → Type 0) (f : Forest) (q p : ℕ) → IsHeld may_hold f → parent_of f q ≡ Some p
    → ((outer inner : Kind) → kind_of f p ≡ Some outer → kind_of f q ≡ Some inner → may_hold outer inner ≡ true → P outer inner)
    → (outer : Kind) × (inner : Kind) × (kind_of f p ≡ Some outer) × (kind_of f q ≡ Some inner) × P outer inner
both_kinds P f q p held up tells =
    let outer = kind_known f p (has-parent_of f q p up) in
    let inner = kind_known f q (has-child f q p up) in
    (outer.0, inner.0, outer.1, inner.1, tells outer.0 inner.0 outer.1 inner.1 (sym (ap₂ (holds may_hold) outer.1 inner.1) ∙ held.each q p up))

pub inline_below : (f : Forest) (q p : ℕ) → IsHeld may_hold f → parent_of f q ≡ Some p → is_at is_inline f p ≡ true → is_at is_inline f q ≡ true
inline_below f q p held up is =
    let k = both_kinds (λ outer inner. is_inline outer ≡ true → is_inline inner ≡ true) f q p held up (λ outer inner a b h e. inline_holds outer inner e h) in
    ap (passes is_inline) k.3 ∙ k.4 (sym (ap (passes is_inline) k.2) ∙ is)

-- so where inline nodes have the children that they had, they read the same
pub inline_read : (f g : Forest) → AreTold f g → IsHeld may_hold f → ((q : ℕ) → is_at is_inline f q ≡ true → children_of g q ≡ children_of f q) → (q : ℕ)
    → is_at is_inline f q ≡ true → read_below g q ≡ read_below f q
inline_read f g t held same q is =
    let skip : ℕ → Bool = λ c. not (is_at is_inline f c) in
    reads_told f g skip t (λ b clear k.
    let here : is_at is_inline f b ≡ true = grind (arith, clear) in
    ap (reads_of g) (same b here) ∙ reads_known f g skip b t.before k (λ c up. ap not (inline_below f c b held up here))) q (ap not is)

-- ---- one line

pub paragraph_kind : (is_text Paragraph ≡ false) × (is_inline Paragraph ≡ false) × (is_item Paragraph ≡ false) × (is_list Paragraph ≡ false)
unfolding is_text is_inline is_item is_list
paragraph_kind = (refl, refl, refl, refl)

-- a paragraph n came before the list with the inline children of a line
pub record IsSaid (f g : Forest) (p list line n : ℕ) : Type 0 where
  pub told : AreTold f g
  pub free : has n f ≡ false
  pub inline : (q : ℕ) → is_at is_inline g q ≡ is_at is_inline f q
  pub item : (q : ℕ) → is_at is_item g q ≡ is_at is_item f q
  pub lists : (q : ℕ) → is_at is_list g q ≡ is_at is_list f q
  pub here : children_of g p ≡ names_with (Some list) (n ∷ []) (children_of f p)
  pub filled : children_of g n ≡ inlines f line
  pub left : children_of g line ≡ rest_of f line
  pub others : (q : ℕ) → eqb q p ≡ false → eqb q n ≡ false → eqb q line ≡ false → children_of g q ≡ children_of f q
  pub up : parent_of g list ≡ parent_of f list

-- a new paragraph among the children of p took what was in the line
module _ (f u g : Forest) (p list line n : ℕ) (c : CameNew f u n p (Some list)) (here : has line f ≡ true) (apart : eqb line p ≡ false)
    (up : parent_of f list ≡ Some p)
    (inline : (q : ℕ) → is_at is_inline u q ≡ is_at is_inline f q) (item : (q : ℕ) → is_at is_item u q ≡ is_at is_item f q)
    (lists : (q : ℕ) → is_at is_list u q ≡ is_at is_list f q)
    (o : WentOver u g line n (inlines u line)) where
  kept : (q : ℕ) → eqb q p ≡ false → children_of u q ≡ children_of f q
  kept = came_elsewhere f u n p (Some list) c

  not_new : (q : ℕ) → has q f ≡ true → eqb q n ≡ false
  not_new q there = grind (arith, there, c.free, eqb_tells q n)

  is_up : parent_of g list ≡ parent_of f list
  is_up =
      let before : parent_of u list ≡ parent_of f list = c.up list ∙ ap (λ t. cond t (Some p) (parent_of f list)) (not_new list (has-child f list p up)) in
      let stays : is_among list (children_of u line) ≡ false =
      not_child u list p line c.told.behind (before ∙ up) (λ e. absurd (grind (arith, e, apart, eqb_tells line p))) in
      let none : is_among list (inlines u line) ≡ false =
      is_among-filter (is_at is_inline u) list (children_of u line) ∙ ap (λ t. t && is_at is_inline u list) stays in
      o.up list ∙ ap (λ t. cond t (Some n) (parent_of u list)) none ∙ before

  said_now : IsSaid f g p list line n
  said_now =
      let t = told_over u g line n (inlines u line) c.told.behind o in
      record {
        told = record { before = c.told.before; behind = t.behind; texts = λ q. t.texts q ∙ c.told.texts q };
        free = c.free;
        inline = λ q. kinds_went is_inline u g line n (inlines u line) o q ∙ inline q;
        item = λ q. kinds_went is_item u g line n (inlines u line) o q ∙ item q;
        lists = λ q. kinds_went is_list u g line n (inlines u line) o q ∙ lists q;
        here = o.others p (λ e. absurd (grind (arith, e, apart, eqb_tells line p))) (λ e. absurd (grind (arith, e, c.other, eqb_tells n p)))
            ∙ came_here f u n p (Some list) c;
        filled = o.there ∙ ap (λ ks. ks ++ inlines u line) (came_empty f u n p (Some list) c) ∙ ap (filter (is_at is_inline u)) (kept line apart)
            ∙ filter-same (is_at is_inline u) (is_at is_inline f) (children_of f line) (λ q among. inline q);
        left = o.left ∙ filter-others (is_at is_inline u) (children_of u line) ∙ ap (filter (λ q. not (is_at is_inline u q))) (kept line apart)
            ∙ filter-same (λ q. not (is_at is_inline u q)) (λ q. not (is_at is_inline f q)) (children_of f line) (λ q among. ap not (inline q));
        others = λ q x y z. o.others q (λ e. absurd (grind (arith, e, z, eqb_tells q line))) (λ e. absurd (grind (arith, e, y, eqb_tells q n))) ∙ kept q x;
        up = is_up;
      }

pub sound_paragraph : (list line : ℕ) (w v : Working) → IsSoundDraft w → paragraph_made list line w ≡ Ok v → StaysSound w v
unfolding paragraph_made emptied_into
sound_paragraph list line w v s e =
    let n : ℕ = w.next_key in
    let a = first_part (new_step Paragraph plain_element w) (λ o. after (put_before_step n list o) (emptied_into n line)) v e in
    let b = first_part (put_before_step n list a.0) (emptied_into n line) v a.2 in
    let made = sound_path.new Paragraph plain_element w a.0 s a.1 in
    let put = stays_then w a.0 b.0 made (put_before_path sound_path n list tt a.0 b.0 made.sound b.1) in
    let ks : List ℕ = filter (is_at is_inline b.0.forest) (children_of b.0.forest line) in
    let filled : StaysSound b.0 v =
    from_ sound_path b.0 (pointed (moved_to line (element_point n 0)) b.0) v (in_turn (moved_to_end n) ks)
    (points sound_path (moved_to line (element_point n 0)) b.0 put.sound) (every sound_path (moved_to_end n) ks (λ k. moved_to_end_path sound_path n k tt))
    b.2 in
    stays_then w b.0 v put filled

pub is_said : (p list line : ℕ) (w v : Working) → IsSoundDraft w → parent_of w.forest list ≡ Some p → has line w.forest ≡ true → eqb line p ≡ false
    → paragraph_made list line w ≡ Ok v
    → IsSaid w.forest v.forest p list line w.next_key
unfolding paragraph_made emptied_into
is_said p list line w v s up there apart e =
    let f : Forest = w.forest in
    let n : ℕ = w.next_key in
    let a = first_part (new_step Paragraph plain_element w) (λ o. after (put_before_step n list o) (emptied_into n line)) v e in
    let b = first_part (put_before_step n list a.0) (emptied_into n line) v a.2 in
    let born = born_at Paragraph plain_element w a.0 b.0 list p s paragraph_kind.0 up a.1 b.1 in
    let c = born.came in
    let u : Forest = b.0.forest in
    let inline : (q : ℕ) → is_at is_inline u q ≡ is_at is_inline f q = λ q. kinds_born is_inline w b.0 Paragraph p (Some list) born paragraph_kind.1 q in
    let item : (q : ℕ) → is_at is_item u q ≡ is_at is_item f q = λ q. kinds_born is_item w b.0 Paragraph p (Some list) born paragraph_kind.2 q in
    let lists : (q : ℕ) → is_at is_list u q ≡ is_at is_list f q = λ q. kinds_born is_list w b.0 Paragraph p (Some list) born paragraph_kind.3 q in
    let two : line ≢ n = λ same. absurd (grind (arith, same, there, c.free)) in
    let h : IsForest u = c.told.behind in
    let o : WentOver u v.forest line n (inlines u line) =
    went_over line n (inlines u line) (pointed (moved_to line (element_point n 0)) b.0) v h two
    (NoRepeats-filter (is_at is_inline u) (children_of u line) (NoRepeats-children_of u line h))
    (λ q among. parent_here u line q h (grind (arith, is_among-filter (is_at is_inline u) q (children_of u line), among))) b.2 in
    said_now f u v.forest p list line n c there apart up inline item lists o

-- ---- one line after another

-- Lines whose inline children may go before the list, which is below p.
pub record MaySay (f : Forest) (p list : ℕ) (ls : List ℕ) : Type 0 where
  pub up : parent_of f list ≡ Some p
  pub place : is_at is_inline f p ≡ false
  pub once : NoRepeats ls
  pub there : (q : ℕ) → is_among q ls ≡ true → has q f ≡ true
  pub apart : (q : ℕ) → is_among q ls ≡ true → eqb q p ≡ false
  pub block : (q : ℕ) → is_among q ls ≡ true → is_at is_inline f q ≡ false

-- New paragraphs before the list have what was in the lines, and these have the rest of their children.
pub record AreSaid (f g : Forest) (p list : ℕ) (ls : List ℕ) : Type 0 where
  pub told : AreTold f g
  pub paragraphs : List ℕ
  pub inline : (q : ℕ) → is_at is_inline g q ≡ is_at is_inline f q
  pub item : (q : ℕ) → is_at is_item g q ≡ is_at is_item f q
  pub lists : (q : ℕ) → is_at is_list g q ≡ is_at is_list f q
  pub here : children_of g p ≡ names_with (Some list) paragraphs (children_of f p)
  pub says : reads_of g paragraphs ≡ said f ls
  pub left : (q : ℕ) → is_among q ls ≡ true → children_of g q ≡ rest_of f q
  pub others : (q : ℕ) → has q f ≡ true → eqb q p ≡ false → is_among q ls ≡ false → children_of g q ≡ children_of f q
  pub reads : (q : ℕ) → is_at is_inline f q ≡ true → read_below g q ≡ read_below f q

said-same : (f g : Forest) (ls : List ℕ) → ((q : ℕ) → is_among q ls ≡ true → inlines g q ≡ inlines f q)
    → ((q : ℕ) → is_at is_inline f q ≡ true → read_below g q ≡ read_below f q) → said g ls ≡ said f ls
said-same f g [] same each = refl
said-same f g (l ∷ ls) same each =
    ap₂ (λ x y. x ++ y)
    (ap (reads_of g) (same l (grind (arith, eqb_tells l l))) ∙ reads-same f g (inlines f l) (λ q among. each q (among_inlines f l q among)))
    (said-same f g ls (λ q among. same q (grind (arith, among))) each)

pub has_still : (f g : Forest) → KindsStay f g → (q : ℕ) → has q f ≡ true → has q g ≡ true
has_still f g stay q there =
    let kind = kind_known f q there in
    sym (is_some-kind_of g q) ∙ ap is_some (stay.each q kind.0 kind.1)

-- what one line leaves, and the rest
module _ (f x g : Forest) (p list line n : ℕ) (ls : List ℕ) (held : IsHeld may_hold f) (m : MaySay f p list (line ∷ ls)) (one : IsSaid f x p list line n)
    (stays : (q : ℕ) → has q f ≡ true → has q x ≡ true) where
  among_first : is_among line (line ∷ ls) ≡ true
  among_first = grind (arith, eqb_tells line line)

  among_later : (q : ℕ) → is_among q ls ≡ true → is_among q (line ∷ ls) ≡ true
  among_later q among = grind (arith, among)

  -- a node that was there and isn't the line has its children still, but for p
  still : (q : ℕ) → has q f ≡ true → eqb q p ≡ false → eqb q line ≡ false → children_of x q ≡ children_of f q
  still q there other away = one.others q other (grind (arith, there, one.free, eqb_tells q n)) away

  later_still : (q : ℕ) → is_among q ls ≡ true → children_of x q ≡ children_of f q
  later_still q among = still q (m.there q (among_later q among)) (m.apart q (among_later q among)) (grind (arith, among, m.once.0, eqb_tells q line))

  inline_first : (q : ℕ) → is_at is_inline f q ≡ true → read_below x q ≡ read_below f q
  inline_first =
      inline_read f x one.told held
      (λ q is. still q (there_at is_inline f q is) (grind (arith, is, m.place, eqb_tells q p)) (grind (arith, is, m.block line among_first, eqb_tells q line)))

  may_go_on : MaySay x p list ls
  may_go_on = record {
    up = one.up ∙ m.up;
    place = one.inline p ∙ m.place;
    once = m.once.1;
    there = λ q among. stays q (m.there q (among_later q among));
    apart = λ q among. m.apart q (among_later q among);
    block = λ q among. one.inline q ∙ m.block q (among_later q among);
  }

  same_inlines : (q : ℕ) → is_among q ls ≡ true → inlines x q ≡ inlines f q
  same_inlines q among =
      ap (filter (is_at is_inline x)) (later_still q among) ∙ filter-same (is_at is_inline x) (is_at is_inline f) (children_of f q) (λ c there. one.inline c)

  same_rest : (q : ℕ) → is_among q ls ≡ true → rest_of x q ≡ rest_of f q
  same_rest q among =
      ap (filter (λ c. not (is_at is_inline x c))) (later_still q among)
      ∙ filter-same (λ c. not (is_at is_inline x c)) (λ c. not (is_at is_inline f c)) (children_of f q) (λ c there. ap not (one.inline c))

  new_up : parent_of x n ≡ Some p
  new_up =
      parent_here x p n one.told.behind (ap (is_among n) one.here ∙ is_among-names_with (Some list) (n ∷ []) (children_of f p) n ∙ grind (arith, eqb_tells n n))

  goes_on : AreSaid x g p list ls → AreSaid f g p list (line ∷ ls)
  goes_on rest =
      let not_p : eqb n p ≡ false = grind (arith, new_up, parent_of-self x n one.told.behind, eqb_tells n p) in
      let not_later : is_among n ls ≡ false = grind (arith, one.free, m.there n) in
      let both : (q : ℕ) → is_at is_inline f q ≡ true → read_below g q ≡ read_below f q = λ q is. rest.reads q (one.inline q ∙ is) ∙ inline_first q is in
      let first : read_below g n ≡ reads_of f (inlines f line) =
      read-level g n rest.told.behind
      ∙ ap₂ (λ t ks. t ++ reads_of g ks) (rest.told.texts n ∙ one.told.texts n ∙ (absent f n one.free).text)
      (rest.others n (has-child x n p new_up) not_p not_later ∙ one.filled)
      ∙ reads-same f g (inlines f line) (λ q among. both q (among_inlines f line q among)) in
      record {
        told = record { before = one.told.before; behind = rest.told.behind; texts = λ q. rest.told.texts q ∙ one.told.texts q };
        paragraphs = n ∷ rest.paragraphs;
        inline = λ q. rest.inline q ∙ one.inline q;
        item = λ q. rest.item q ∙ one.item q;
        lists = λ q. rest.lists q ∙ one.lists q;
        here = rest.here ∙ ap (names_with (Some list) rest.paragraphs) one.here
            ∙ names_with-twice list n rest.paragraphs (children_of f p) (grind (arith, one.free, has-child f list p m.up, eqb_tells n list));
        says = ap₂ (λ a b. a ++ b) first (rest.says ∙ said-same f x ls same_inlines inline_first);
        left = λ q among. elim (eqb_tells q line) [
          | inl here ↦
              ap (children_of g) here.1
              ∙ rest.others line (stays line (m.there line among_first)) (m.apart line among_first) m.once.0
              ∙ one.left ∙ ap (rest_of f) (sym here.1)
          | inr other ↦ let later : is_among q ls ≡ true = grind (arith, among, other.0, eqb_tells line q) in rest.left q later ∙ same_rest q later
        ];
        others = λ q there other away.
            rest.others q (stays q there) other (grind (arith, away)) ∙ still q there other (grind (arith, away, eqb_tells q line, eqb_tells line q));
        reads = both;
      }

pub are_said : (p list : ℕ) (ls : List ℕ) (w v : Working) → IsSoundDraft w → MaySay w.forest p list ls → in_turn (paragraph_made list) ls w ≡ Ok v
    → AreSaid w.forest v.forest p list ls × StaysSound w v
unfolding in_turn
are_said p list [] w v s m e =
    subst (λ (x : Working). AreSaid w.forest x.forest p list [] × StaysSound w x) (was_same w v e) (
      record {
        told = record { before = s.ready.in_order; behind = s.ready.in_order; texts = λ q. refl };
        paragraphs = [];
        inline = λ q. refl;
        item = λ q. refl;
        lists = λ q. refl;
        here = sym (names_with-none list (children_of w.forest p));
        says = refl;
        left = λ q among. absurd (cc);
        others = λ q there other away. refl;
        reads = λ q is. refl;
      },
      stays_selected w w s refl refl,
    )
are_said p list (line ∷ ls) w v s m e =
    let f : Forest = w.forest in
    let a = first_part (paragraph_made list line w) (in_turn (paragraph_made list) ls) v e in
    let x : Forest = a.0.forest in
    let first : is_among line (line ∷ ls) ≡ true = grind (arith, eqb_tells line line) in
    let one = is_said p list line w a.0 s m.up (m.there line first) (m.apart line first) a.1 in
    let stays = sound_paragraph list line w a.0 s a.1 in
    let has_so : (q : ℕ) → has q f ≡ true → has q x ≡ true = has_still f x stays.kinds in
    let rest = are_said p list ls a.0 v stays.sound (may_go_on f x v.forest p list line w.next_key ls s.held m one has_so) a.2 in
    (goes_on f x v.forest p list line w.next_key ls s.held m one has_so rest.0, stays_then w a.0 v stays rest.1)

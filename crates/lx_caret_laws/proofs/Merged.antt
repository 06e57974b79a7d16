-- What removing between two texts leaves, once their blocks are joined, if they are.
use Rattle.lx_links.proofs.Ordered.{there_within}
use Rattle.lx_draft.proofs.Gaps.{child_of, parent_here}
use Rattle.lx_caret_laws.proofs.InPlace.{among-within}
use Rattle.lx_blocks.proofs.Until.{filter_among}
use Rattle.lx_blocks.specs.Blocks.{block_of, is_at, leading_in}
use Rattle.lx_blocks.specs.Ranges.{caret_at}
use Rattle.lx_caret_laws.proofs.Emptied.{Emptied}
use Rattle.lx_caret_laws.proofs.Going.{going, going_clear, kept_children, left_children}
use Rattle.lx_caret_laws.proofs.CutLists.{AreIn, HasBoth}
use Rattle.lx_caret_laws.proofs.LyingBetween.{Between, names, is_out, attached_last, attached_first}
use Rattle.lx_caret_laws.proofs.ReadOver.{LeftOver, back_says, front_says, left_both, said-append, keys_of}
use Rattle.lx_caret_laws.proofs.Silent.{holder_silent}
use Rattle.lx_caret_laws.specs.Carets.{HasCaret}
use Rattle.lx_caret_laws.specs.Ranges.{ReadsNow}
use Rattle.lx_caret_laws.specs.Reading.{said, said_by}
use Rattle.lx_caret.proofs.Lies.{text_at}
use Rattle.lx_draft.proofs.Touched.{is_some-kind_of}
use Rattle.lx_draft.specs.Faults.{text_in}
use Rattle.lx_draft.specs.Selecting.{text_of}
use Rattle.lx_draft.specs.Steps.{text_replaced}
use Rattle.lx_draft.specs.Working.{Working}
use Rattle.lx_edit.specs.Edits.{text_point}
use Rattle.lx_forest.proofs.Tops.{is_within-child}
use Rattle.lx_forest.proofs.Within.{is_within-ancestors, is_within-self}
use Rattle.lx_forest.specs.Forest.{Forest, Label}
use Rattle.lx_forest.specs.Lookups.{IsForest, IsHeld, ancestors, children_of, has, is_within, keys_within, label_of, is_attached, parent_of}
use Rattle.lx_forest.specs.Suited.{IsSuited, is_suited}
use Rattle.lx_node.specs.Kinds.{is_inline, is_possible, is_text_block, may_hold}
use Rattle.lx_node.specs.OfKind.{are_text_fields, fits_kind, is_of_kind, is_text_of}
use Rattle.lx_node.specs.declared.fields.Fields.TheVariants as fields
use Rattle.lx_node.specs.declared.fields.TextFields.{TextFields}
use Rattle.lx_node.specs.declared.kind.Kind.TheVariants as kinds
use Rattle.lx_select.specs.declared.selection.Selection.TheVariants.{Range}
use Rattle.lx_text.specs.Texts.{front_of, rest_of}
use Rattle.lx_trees.specs.Siblings.{is_among}
use Rattle.std.proofs.Common.{Bool, List, None, Option, Some, [], ap, ap₂, arith, cond, false, inl, inr, option_map, refl, subst, sym, true, ℕ, ◌++◌, ◌∙◌, ◌∷◌, ◌≡◌, ◌≢◌, ◌&&◌, not}
use Rattle.std.proofs.lemmas.Bool.Decides.{eqb_tells}
use Rattle.std.proofs.lemmas.Bool.{cases_Bool}
use Rattle.std.specs.Prelude.{find, is_some}

-- ---- what is known before

-- two normal texts, of which one comes first, in a draft whose nodes hold what they may
pub record Setting (s e : ℕ) (one other : TextFields) (a m z : List ℕ) (w : Working) : Type 0 where
  pub between : Between w.forest s e a m z
  pub apart : s ≢ e
  pub first : text_in (label_of w.forest s) ≡ Some one
  pub last : text_in (label_of w.forest e) ≡ Some other
  pub held : IsHeld may_hold w.forest
  pub suited : IsSuited w.forest

pub says_by : (f g : Forest) (q : ℕ) → label_of g q ≡ label_of f q → said g q ≡ said f q
says_by f g q same = ap (λ l. text_of (option_map (λ (l : Label). l.fields) l)) same

pub there_as : (f g : Forest) (q : ℕ) → label_of g q ≡ label_of f q → has q f ≡ true → has q g ≡ true
there_as f g q same so =
    sym (is_some-kind_of g q) ∙ ap (λ l. is_some (option_map (λ (l : Label). l.kind) l)) same ∙ is_some-kind_of f q ∙ so

now_there : (g : Forest) (k : ℕ) (t : TextFields) (now : List ℕ) → ReadsNow g k t now → has k g ≡ true
now_there g k t now is = sym (is_some-kind_of g k) ∙ ap (λ l. is_some (option_map (λ (l : Label). l.kind) l)) is

pub now_says : (g : Forest) (k : ℕ) (t : TextFields) (now : List ℕ) → ReadsNow g k t now → said g k ≡ now
now_says g k t now is = ap (λ l. text_of (option_map (λ (l : Label). l.fields) l)) is

now_suited : (t : TextFields) (now : List ℕ) → is_of_kind kinds.Text (fields.Text t) ≡ true → is_of_kind kinds.Text (text_replaced t now) ≡ true
unfolding is_of_kind fits_kind is_text_of are_text_fields is_possible
now_suited t now e = e

suited_now : (f g : Forest) (k : ℕ) (t : TextFields) (now : List ℕ) → IsSuited f → text_in (label_of f k) ≡ Some t → ReadsNow g k t now
    → is_suited (label_of g k) ≡ true
suited_now f g k t now suited here is =
    ap is_suited is ∙ now_suited t now (old (label_of f k) refl) where
      old : (o : Option Label) → label_of f k ≡ o → is_of_kind kinds.Text (fields.Text t) ≡ true
      old None none = absurd (let bad : None ≡ Some kinds.Text = sym (ap (option_map (λ (l : Label). l.kind)) none) ∙ (text_at f k t here).kind_is in cc)
      old (Some l) some =
          let text = text_at f k t here in
          let kind : Some l.kind ≡ Some kinds.Text = sym (ap (option_map (λ (l : Label). l.kind)) some) ∙ text.kind_is in
          let own : Some l.fields ≡ Some (fields.Text t) = sym (ap (option_map (λ (l : Label). l.fields)) some) ∙ text.fields_are in
          let kind_is : l.kind ≡ kinds.Text = cc in
          let own_is : l.fields ≡ fields.Text t = cc in
          sym (ap₂ (λ k x. is_of_kind k x) kind_is own_is) ∙ sym (ap is_suited some) ∙ suited.each k

module _ (s e i j : ℕ) (one other : TextFields) (a m z : List ℕ) (w g : Working) (x : Setting s e one other a m z w)
    (d : Emptied s e i j one other (going w.forest s e a m z x.between) w g) where
  abbrev pub f : Forest
  f = w.forest

  order : IsForest f
  order = x.between.order

  pub holds_silent : (q : ℕ) → q ≢ e → is_within f q e ≡ true → said f q ≡ []
  holds_silent q apart inside =
      let c = is_within-child f q e order inside (λ same. apart (sym same)) in
      holder_silent f q c.child x.suited x.held c.up

  -- what went is known to go in every node
  pub left_over : LeftOver f g.forest s e a m z (front_of i one.text) (rest_of j other.text)
  left_over = record {
    between = x.between;
    order_after = d.ordered;
    first_says = now_says g.forest s one (front_of i one.text) d.first;
    last_says = now_says g.forest e other (rest_of j other.text) d.last;
    others_say = λ q not_s not_e. says_by f g.forest q (d.labels q not_s not_e);
    there = λ q so. elim (eqb_tells q s) [
      | inl own ↦ ap (λ k. has k g.forest) own.1 ∙ now_there g.forest s one (front_of i one.text) d.first
      | inr not_s ↦ elim (eqb_tells q e) [
        | inl own ↦ ap (λ k. has k g.forest) own.1 ∙ now_there g.forest e other (rest_of j other.text) d.last
        | inr not_e ↦ there_as f g.forest q (d.labels q not_s.1 not_e.1) so
      ]
    ];
    children = λ q so stays. d.children q ∙ left_children f s e a m z x.between q stays;
    silent = λ q at inside.
        holds_silent q (λ same. absurd (grind (arith, same, at, (names f s e a m z x.between).e_mid))) inside;
  }

  pub within_first : (q : ℕ) → is_within g.forest q s ≡ is_within f q s
  within_first q = d.within q s (λ k at. (going_clear f s e a m z x.between k at).0)

  pub within_last : (q : ℕ) → is_within g.forest q e ≡ is_within f q e
  within_last q = d.within q e (λ k at. (going_clear f s e a m z x.between k at).1)

  pub suited_then : IsSuited g.forest
  suited_then = record {
    each = λ q. elim (eqb_tells q s) [
      | inl own ↦ ap (λ k. is_suited (label_of g.forest k)) own.1 ∙ suited_now f g.forest s one (front_of i one.text) x.suited x.first d.first
      | inr not_s ↦ elim (eqb_tells q e) [
        | inl own ↦ ap (λ k. is_suited (label_of g.forest k)) own.1 ∙ suited_now f g.forest e other (rest_of j other.text) x.suited x.last d.last
        | inr not_e ↦ ap is_suited (d.labels q not_s.1 not_e.1) ∙ x.suited.each q
      ]
    ];
  }

-- ---- what is known then

-- the keys of a node, cut at a text: what is said before it and after it
pub record CutSaid (f v : Forest) (s q : ℕ) (front now : List ℕ) : Type 0 where
  pub left : List ℕ
  pub rest : List ℕ
  pub keys : keys_within v q ≡ left ++ (s ∷ rest)
  pub ahead : said_by v left ≡ said_by f front
  pub behind : said_by v rest ≡ now
  pub away : is_among s left ≡ false

-- what removing between two texts leaves
pub record Over (s e i j : ℕ) (one other : TextFields) (a m z : List ℕ) (w v : Working) : Type 0 where
  pub order : IsForest v.forest
  pub first : ReadsNow v.forest s one (front_of i one.text)
  pub last : ReadsNow v.forest e other (rest_of j other.text)
  pub labels : (q : ℕ) → q ≢ s → q ≢ e → label_of v.forest q ≡ label_of w.forest q
  pub others : (q : ℕ) → is_within w.forest q s ≡ false → is_within w.forest q e ≡ false → has q w.forest ≡ true
      → children_of v.forest q ≡ children_of w.forest q
  pub within : (q : ℕ) → is_within v.forest q s ≡ is_within w.forest q s
  pub up : (p : ℕ) → parent_of w.forest s ≡ Some p → parent_of v.forest s ≡ Some p
  pub goes : (q : ℕ) → is_out w.forest m e q ≡ true → is_attached v.forest q ≡ false
  pub stays : (q : ℕ) → is_attached w.forest q ≡ true → is_out w.forest m e q ≡ false → is_within w.forest q e ≡ false
      → is_attached v.forest q ≡ true
  pub last_stays : is_attached v.forest e ≡ true
  pub keys : (q : ℕ) (k : HasBoth s e a m z (keys_within w.forest q))
      → CutSaid w.forest v.forest s q k.front (rest_of j other.text ++ said_by w.forest k.back)
  pub caret : (format : ℕ) → (caret_at (text_point s i) w).selection ≡ Range (text_point s i) (text_point s i) format → HasCaret s i format v
  pub written : v.written ≡ w.written

module _ (s e i j : ℕ) (one other : TextFields) (a m z : List ℕ) (w g : Working) (x : Setting s e one other a m z w)
    (d : Emptied s e i j one other (going w.forest s e a m z x.between) w g) where
  l : LeftOver w.forest g.forest s e a m z (front_of i one.text) (rest_of j other.text)
  l = left_over s e i j one other a m z w g x d

  pub rest_said : (back : List ℕ) → AreIn back z → said_by g.forest (e ∷ back) ≡ rest_of j other.text ++ said_by w.forest back
  rest_said back in_z =
      ap₂ (λ p r. p ++ r) l.last_says (back_says w.forest g.forest s e a m z (front_of i one.text) (rest_of j other.text) l back in_z)

  pub ahead_said : (front : List ℕ) → AreIn front a → said_by g.forest front ≡ said_by w.forest front
  ahead_said front in_a = front_says w.forest g.forest s e a m z (front_of i one.text) (rest_of j other.text) l front in_a

  pub away_from : (front : List ℕ) → AreIn front a → is_among s front ≡ false
  away_from front in_a = elim (cases_Bool (is_among s front)) [
    | inl bad ↦ absurd (grind (arith, in_a.each s bad, (names w.forest s e a m z x.between).s_front))
    | inr fine ↦ fine
  ]

  cut_both : (q : ℕ) (k : HasBoth s e a m z (keys_within w.forest q))
      → CutSaid w.forest g.forest s q k.front (rest_of j other.text ++ said_by w.forest k.back)
  cut_both q k =
      let over = left_both w.forest g.forest s e a m z (front_of i one.text) (rest_of j other.text) l q k in
      record {
        left = k.front;
        rest = over.mid ++ (e ∷ k.back);
        keys = over.keys;
        ahead = ahead_said k.front k.ahead;
        behind = said-append g.forest over.mid (e ∷ k.back) ∙ ap₂ (λ p r. p ++ r) over.silent (rest_said k.back k.behind);
        away = away_from k.front k.ahead;
      }

  pub others_then : (q : ℕ) → is_within w.forest q s ≡ false → is_within w.forest q e ≡ false → children_of g.forest q ≡ children_of w.forest q
  others_then q first last = d.children q ∙ kept_children w.forest s e a m z x.between q first last

  pub within_then : (q : ℕ) → is_within g.forest q s ≡ is_within w.forest q s
  within_then q = within_first s e i j one other a m z w g x d q

  -- in the root's tree is what was there and doesn't lie wholly between
  pub attached_then : (q : ℕ) → is_attached g.forest q ≡ (is_attached w.forest q && not (is_out w.forest m e q))
  attached_then q =
      let f : Forest = w.forest in
      let holds : is_attached f e ≡ true = attached_last f s e a m z x.between in
      let keys = keys_of f g.forest s e a m z (front_of i one.text) (rest_of j other.text) l 0 e holds (grind (arith, holds)) in
      sym (among-within g.forest 0 q) ∙ ap (is_among q) keys ∙ filter_among (λ c. not (is_out f m e c)) (keys_within f 0) q
      ∙ ap (λ t. t && not (is_out f m e q)) (among-within f 0 q)

  pub last_there : is_attached g.forest e ≡ true
  last_there = attached_then e ∙ grind (arith, attached_last w.forest s e a m z x.between, (names w.forest s e a m z x.between).e_mid)

  -- the first text has its parent
  pub up_then : (p : ℕ) → parent_of w.forest s ≡ Some p → parent_of g.forest s ≡ Some p
  up_then p up =
      let gone : List ℕ = going w.forest s e a m z x.between in
      let stays : is_among s gone ≡ false = elim (cases_Bool (is_among s gone)) [
        | inl bad ↦ absurd (grind (
          arith,
          (going_clear w.forest s e a m z x.between s bad).0,
          is_within-self w.forest s,
          there_within w.forest 0 s (attached_first w.forest s e a m z x.between),
        ))
        | inr fine ↦ fine
      ] in
      let old : is_among s (children_of w.forest p) ≡ true = child_of w.forest p s x.between.order up in
      parent_here g.forest p s d.ordered (ap (is_among s) (d.children p)
      ∙ filter_among (λ c. not (is_among c gone)) (children_of w.forest p) s ∙ grind (arith, old, stays))

  -- where the blocks aren't joined
  pub over_alone : (v : Working) → g ≡ v → Over s e i j one other a m z w v
  over_alone v same = subst (Over s e i j one other a m z w) same (record {
    order = d.ordered;
    first = d.first;
    last = d.last;
    labels = d.labels;
    others = λ q first last so. others_then q first last;
    within = within_then;
    up = up_then;
    goes = λ q out. attached_then q ∙ grind (arith, out);
    stays = λ q there stays apart. attached_then q ∙ grind (arith, there, stays);
    last_stays = last_there;
    keys = cut_both;
    caret = d.caret;
    written = d.written;
  })

-- ---- joining

find_in : (test : ℕ → Bool) (xs : List ℕ) (x : ℕ) → find test xs ≡ Some x → (is_among x xs ≡ true) × (test x ≡ true)
find_in test [] x e = absurd (cc)
find_in test (y ∷ ys) x e = elim (cases_Bool (test y)) [
  | inl is ↦
      let found : Some y ≡ Some x = sym (ap (λ b. cond b (Some y) (find test ys)) is) ∙ e in
      let same : y ≡ x = cc in
      (grind (arith, same, eqb_tells y x), ap test (sym same) ∙ is)
  | inr is ↦
      let more = find_in test ys x (sym (ap (λ b. cond b (Some y) (find test ys)) is) ∙ e) in
      (grind (arith, more.0), more.1)
]

-- the block of a node holds it
pub block_holds : (f : Forest) (k b : ℕ) → IsForest f → has k f ≡ true → block_of f k ≡ Some b
    → (is_within f b k ≡ true) × (is_at is_text_block f b ≡ true)
block_holds f k b h so e =
    let found = find_in (is_at is_text_block f) (k ∷ ancestors f k) b e in
    (is_within-ancestors f b k h so ∙ found.0, found.1)

-- the inline children come first, and then others
pub leading_splits : (f : Forest) (ks : List ℕ) → (rest : List ℕ) × (ks ≡ leading_in f ks ++ rest)
leading_splits f [] = ([], refl)
leading_splits f (k ∷ ks) = elim (cases_Bool (is_at is_inline f k)) [
  | inl is ↦
      let more = leading_splits f ks in
      (more.0, ap (λ t. k ∷ t) more.1 ∙ sym (ap (λ b. cond b (k ∷ leading_in f ks) [] ++ more.0) is))
  | inr is ↦ (k ∷ ks, sym (ap (λ b. cond b (k ∷ leading_in f ks) [] ++ (k ∷ ks)) is))
]

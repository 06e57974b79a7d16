-- Formatting leaves all nodes but the covered texts and their parents.
use Rattle.lx_blocks.proofs.Steps.{attached_there}
use Rattle.lx_blocks.specs.Blocks.{is_at, passes}
use Rattle.lx_blocks.specs.Places.{comes_first, covered}
use Rattle.lx_blocks.specs.Ranges.{end_of, lies, normal_at, range_of, start_of}
use Rattle.lx_blocks.specs.declared.ranges.Ranged.{Ranged}
use Rattle.lx_caret.proofs.Cleared.{fit_of, range_lies}
use Rattle.lx_caret.proofs.Fit.{Fit, after_tells}
use Rattle.lx_caret.proofs.Lies.{both}
use Rattle.lx_caret.specs.Formatting.{Isolated, and_before, edges, end_piece, format_at, format_text_step, formatted, has_bit, isolate_step, isolated, isolated_key, pieces, selection_format, start_piece, switch_step, switched, switched_all, switched_in, whole, piece}
use Rattle.lx_caret_laws.proofs.Formatted.{format_unread, isolate_unread}
use Rattle.lx_caret_laws.proofs.Spliced.{label_other, text_of_normal}
use Rattle.lx_caret_laws.proofs.SplitSaid.{split_stays}
use Rattle.lx_caret_laws.specs.Carets.{IsSound}
use Rattle.lx_caret_laws.specs.Formatting.{FormattingKeepsText, IsApartFrom, covered_texts}
use Rattle.lx_draft.proofs.Covered.{answered}
use Rattle.lx_draft.proofs.Touched.{is_some-kind_of}
use Rattle.lx_draft.specs.Covering.{KindsStay}
use Rattle.lx_draft.specs.Faults.{after, over_limits}
use Rattle.lx_draft.specs.Selecting.{lies_in}
use Rattle.lx_draft.specs.Steps.{fields_written, set_points, set_step}
use Rattle.lx_draft.specs.Working.{Working}
use Rattle.lx_edit.specs.InTurn.{in_turn}
use Rattle.lx_edit.specs.Texts.{split_step}
use Rattle.lx_edit_laws.proofs.WrapSteps.{was_same}
use Rattle.lx_forest.proofs.Lookups.{children_of-with_fields}
use Rattle.lx_forest.specs.Edits.{with_fields}
use Rattle.lx_forest.specs.Forest.{Forest}
use Rattle.lx_forest.specs.Lookups.{children_of, fields_of, has, is_attached, kind_of, label_of, parent_of}
use Rattle.lx_links.specs.Faults.{set_fault}
use Rattle.lx_node.specs.Kinds.{has_characters}
use Rattle.lx_node.specs.Strings.{characters_of}
use Rattle.lx_node.specs.declared.cause.Cause.{Cause}
use Rattle.lx_node.specs.declared.cause.Point.{Point}
use Rattle.lx_node.specs.declared.cause.PointKind.TheVariants as point
use Rattle.lx_node.specs.declared.cause.PointKind.{PointKind}
use Rattle.lx_node.specs.declared.fields.Fields.TheVariants as fields
use Rattle.lx_node.specs.declared.fields.Fields.{Fields}
use Rattle.lx_node.specs.declared.fields.TextFields.{TextFields}
use Rattle.lx_node.specs.declared.kind.Kind.{Kind}
use Rattle.lx_trees.specs.Siblings.{is_among}
use Rattle.lx_trees.proofs.Siblings.{is_among-append}
use Rattle.std.proofs.Common.{Bool, List, None, Ok, Option, Result, Some, [], ap, arith, cond, eqb, false, inl, inr, map, not, refl, subst, sym, true, ℕ, ◌&&◌, ◌++◌, ◌∙◌, ◌∷◌, ◌≡◌, ◌≢◌, ◌||◌, ◌⊎◌}
use Rattle.std.proofs.lemmas.Bool.Decides.{eqb_tells}
use Rattle.std.specs.Option.{option_or}
use Rattle.std.specs.Prelude.{filter, is_some, nat_lt}

-- ---- what stays

-- a node has its label and its children still
pub record Still (f g : Forest) (q : ℕ) : Type 0 where
  pub label : label_of g q ≡ label_of f q
  pub children : children_of g q ≡ children_of f q

still_then : (f g h : Forest) (q : ℕ) → Still f g q → Still g h q → Still f h q
still_then f g h q a b = record { label = b.label ∙ a.label; children = b.children ∙ a.children }

-- one piece made a text by itself: all but its text and its parent stays, and no node goes elsewhere
record IsolatedSo (k : ℕ) (w v : Working) : Type 0 where
  still : (q : ℕ) → has q w.forest ≡ true → q ≢ k → parent_of w.forest k ≢ Some q → Still w.forest v.forest q
  parents : (q : ℕ) → has q w.forest ≡ true → parent_of v.forest q ≡ parent_of w.forest q

isolated_so : (p : _) (w v : Working) → Fit w → isolate_step p w ≡ Ok v → IsolatedSo p.key w v
unfolding isolate_step
isolated_so p w v fit e = by_text (normal_at w.forest p.key) refl e where
  by_text : (o : Option TextFields) → normal_at w.forest p.key ≡ o → cond (is_some o) (split_step p.key (edges w.forest p) w) (Ok w) ≡ Ok v
      → IsolatedSo p.key w v
  by_text None is e = subst (IsolatedSo p.key w) (was_same w v e)
      (record { still = λ q so other above. record { label = refl; children = refl }; parents = λ q so. refl })
  by_text (Some t) is e =
      let stay = (split_stays p.key (edges w.forest p) t w v fit.ready fit.short (text_of_normal w.forest p.key t is) e).1 in
      record {
        still = λ q so other above. record { label = stay.labels q so other; children = stay.children q so above };
        parents = λ q so. stay.parents q so;
      }

-- what is there stays there
stays_there : (w v : Working) (k : ℕ) → KindsStay w.forest v.forest → has k w.forest ≡ true → has k v.forest ≡ true
stays_there w v k kept so = by_kind (kind_of w.forest k) refl where
  by_kind : (o : Option Kind) → kind_of w.forest k ≡ o → has k v.forest ≡ true
  by_kind None is = absurd (grind (arith, so, is, is_some-kind_of w.forest k))
  by_kind (Some kind) is = sym (is_some-kind_of v.forest k) ∙ ap is_some (kept.each k kind is)

-- all pieces: a node that was there, and is apart from their texts, stays, and is none of the texts that have the pieces then
record AllIsolated (w : Working) (made : Isolated) (q : ℕ) : Type 0 where
  still : Still w.forest made.draft.forest q
  none : is_among q made.texts ≡ false

isolated_key_other : (p : _) (w : Working) (q x : ℕ) → isolated_key p w ≡ x → Fit w → has q w.forest ≡ true → q ≢ p.key → q ≢ x
isolated_key_other p w q x is fit so other = by_test (is_some (normal_at w.forest p.key) && nat_lt 0 p.from) is where
  by_test : (b : Bool) → cond b w.next_key p.key ≡ x → q ≢ x
  by_test false is = λ same. other (same ∙ sym is)
  by_test true is = λ same. absurd (grind (arith, so, same, is, fit.ready.free w.next_key (omega arith)))

all_isolated : (ps : List _) (w : Working) (made : Isolated) (q : ℕ) → Fit w → isolated ps w ≡ Ok made → has q w.forest ≡ true
    → ((k : ℕ) → is_among k (map (λ p. p.key) ps) ≡ true → has k w.forest ≡ true) → IsApartFrom (map (λ p. p.key) ps) w.forest q
    → AllIsolated w made q
unfolding isolated
all_isolated [] w made q fit e so there apart =
    let is : ◌≡◌ {A = Isolated} (record { draft = w; texts = [] }) made = cc in
    subst (λ m. AllIsolated w m q) is (record { still = record { label = refl; children = refl }; none = refl })
all_isolated (p ∷ ps) w made q fit e so there apart =
    let first = after_tells (isolate_step p w) (λ v. after (isolated ps v) (and_before (isolated_key p w))) made e in
    let u : Working = first.0 in
    let second = after_tells (isolated ps u) (and_before (isolated_key p w)) made first.1.1 in
    let last : ◌≡◌ {A = Result Isolated Cause} (Ok (record { draft = second.0.draft; texts = isolated_key p w ∷ second.0.texts })) (Ok made) =
    second.1.1 in
    let is : ◌≡◌ {A = Isolated} (record { draft = second.0.draft; texts = isolated_key p w ∷ second.0.texts }) made = cc in
    let other : q ≢ p.key = λ same. absurd (grind (arith, apart.other, same, eqb_tells p.key q)) in
    let one = isolated_so p w u fit first.1.0 in
    let stays = (isolate_unread p w u fit first.1.0).stays in
    let here : is_among p.key (map (λ p. p.key) (p ∷ ps)) ≡ true = grind (arith, eqb_tells p.key p.key) in
    let still = one.still q so other (apart.above p.key here) in
    let later : (k : ℕ) → is_among k (map (λ p. p.key) ps) ≡ true → is_among k (map (λ p. p.key) (p ∷ ps)) ≡ true = λ k among. grind (arith, among) in
    let there_u : (k : ℕ) → is_among k (map (λ p. p.key) ps) ≡ true → has k u.forest ≡ true =
    λ k among. stays_there w u k stays.kept (there k (later k among)) in
    let apart_u : IsApartFrom (map (λ p. p.key) ps) u.forest q = record {
      other = grind (arith, apart.other);
      above = λ k among up. apart.above k (later k among) (sym (one.parents k (there k (later k among))) ∙ up);
    } in
    let rest = all_isolated ps u second.0 q stays.fit second.1.0 (stays_there w u q stays.kept so) there_u apart_u in
    let key : q ≢ isolated_key p w = isolated_key_other p w q (isolated_key p w) refl fit so other in
    subst (λ m. AllIsolated w m q) is (record {
      still = still_then w.forest u.forest second.0.draft.forest q still rest.still;
      none = grind (arith, rest.none, key, eqb_tells (isolated_key p w) q);
    })

-- ---- a format set

set_still : (k : ℕ) (u : TextFields) (w v : Working) (q : ℕ) → set_step k (fields.Text u) w ≡ Ok v → q ≢ k → Still w.forest v.forest q
unfolding set_step
set_still k u w v q e other =
    let x : Fields = fields.Text u in
    let told = answered (option_or (set_fault k x w.forest) (over_limits (characters_of x) w))
    (fields_written k x (characters_of x) (set_points k x) w) v e in
    let forest : with_fields k x w.forest ≡ v.forest = ap (λ (y : Working). y.forest) told.1 in
    subst (λ g. Still w.forest g q) forest (record { label = label_other w.forest k x q other; children = children_of-with_fields k x w.forest q })

switch_still : (on : Bool) (bit k : ℕ) (w v : Working) (q : ℕ) → switch_step on bit k w ≡ Ok v → q ≢ k → Still w.forest v.forest q
unfolding switch_step
switch_still on bit k w v q e other = by_fields (fields_of w.forest k) e where
  by_fields : (o : Option Fields) → switched_in on bit o k w ≡ Ok v → Still w.forest v.forest q
  by_fields (Some (fields.Text t)) e = set_still k (record t { format = switched on bit t.format }) w v q e other
  by_fields o e = subst (λ x. Still w.forest x.forest q) (was_same w v e) (record { label = refl; children = refl })

each_still : (on : Bool) (bit : ℕ) (ks : List ℕ) (w v : Working) (q : ℕ) → in_turn (switch_step on bit) ks w ≡ Ok v → is_among q ks ≡ false
    → Still w.forest v.forest q
unfolding in_turn
each_still on bit [] w v q e out = subst (λ x. Still w.forest x.forest q) (was_same w v e) (record { label = refl; children = refl })
each_still on bit (k ∷ ks) w v q e out =
    let first = after_tells (switch_step on bit k w) (in_turn (switch_step on bit) ks) v e in
    let other : q ≢ k = λ same. absurd (grind (arith, out, same, eqb_tells k q)) in
    still_then w.forest first.0.forest v.forest q (switch_still on bit k w first.0 q first.1.0 other)
    (each_still on bit ks first.0 v q first.1.1 (grind (arith, out)))

all_switched : (bit : ℕ) (ks : List ℕ) (w v : Working) (q : ℕ) → switched_all bit ks w ≡ Ok v → is_among q ks ≡ false → Still w.forest v.forest q
all_switched bit [] w v q e out = subst (λ x. Still w.forest x.forest q) (was_same w v e) (record { label = refl; children = refl })
all_switched bit (k ∷ ks) w v q e out =
    let on : Bool = not (has_bit bit (format_at w.forest k)) in
    let first = after_tells (in_turn (switch_step on bit) (k ∷ ks) w) (λ x. Ok (selection_format (format_at x.forest k) x)) v e in
    subst (λ x. Still w.forest x.forest q) (was_same (selection_format (format_at first.0.forest k) first.0) v first.1.1)
    (each_still on bit (k ∷ ks) w first.0 q first.1.0 out)

formatted_still : (bit : ℕ) (ps : List _) (format : ℕ) (w v : Working) (q : ℕ) → Fit w → formatted bit ps format w ≡ Ok v → has q w.forest ≡ true
    → ((k : ℕ) → is_among k (map (λ p. p.key) ps) ≡ true → has k w.forest ≡ true) → IsApartFrom (map (λ p. p.key) ps) w.forest q
    → Still w.forest v.forest q
formatted_still bit [] format w v q fit e so there apart =
    subst (λ x. Still w.forest x.forest q) (was_same (selection_format (switched (not (has_bit bit format)) bit format) w) v e)
    (record { label = refl; children = refl })
formatted_still bit (p ∷ ps) format w v q fit e so there apart =
    let first = after_tells (isolated (p ∷ ps) w) (λ made. switched_all bit made.texts made.draft) v e in
    let all = all_isolated (p ∷ ps) w first.0 q fit first.1.0 so there apart in
    still_then w.forest first.0.draft.forest v.forest q all.still (all_switched bit first.0.texts first.0.draft v q first.1.1 all.none)

-- ---- the covered texts are there

map_among : (xs ys : List ℕ) (k : ℕ) (P : Type 0) → (is_among k xs ≡ true → P) → (is_among k ys ≡ true → P) → is_among k (xs ++ ys) ≡ true → P
map_among xs ys k P first second e = elim (either (is_among k xs) (is_among k ys) (sym (is_among-append k xs ys) ∙ e)) [
  | inl a ↦ first a
  | inr b ↦ second b
] where
  either : (a b : Bool) → (a || b) ≡ true → (a ≡ true) ⊎ (b ≡ true)
  either true b e = inl refl
  either false b e = inr e

kept_among : {A : Type 0} (key : A → ℕ) (test : A → Bool) (xs : List A) (k : ℕ) → is_among k (map key (filter test xs)) ≡ true
    → is_among k (map key xs) ≡ true
kept_among key test [] k e = e
kept_among key test (x ∷ xs) k e = by_test (test x) (kept_among key test xs k) e where
  by_test : (b : Bool) → (is_among k (map key (filter test xs)) ≡ true → is_among k (map key xs) ≡ true)
      → is_among k (map key (cond b (x ∷ filter test xs) (filter test xs))) ≡ true → is_among k (map key (x ∷ xs)) ≡ true
  by_test true again e = elim (eqb_tells (key x) k) [
    | inl own ↦ grind (arith, own)
    | inr other ↦ grind (arith, again (grind (arith, e, other.0)))
  ]
  by_test false again e = grind (arith, again e)

joined_keys : {A : Type 0} (key : A → ℕ) (xs ys : List A) → map key (xs ++ ys) ≡ map key xs ++ map key ys
joined_keys key [] ys = refl
joined_keys key (x ∷ xs) ys = ap (λ ks. key x ∷ ks) (joined_keys key xs ys)

whole_keys : (f : Forest) (ks : List ℕ) → map (λ p. p.key) (map (whole f) ks) ≡ ks
whole_keys f [] = refl
whole_keys f (k ∷ ks) = ap (λ qs. k ∷ qs) (whole_keys f ks)

passes_there : (f : Forest) (ks : List ℕ) (k : ℕ) → is_among k (filter (is_at has_characters f) ks) ≡ true → has k f ≡ true
passes_there f [] k e = absurd (cc)
passes_there f (x ∷ xs) k e = by_test (is_at has_characters f x) refl (passes_there f xs k) e where
  by_kind : (o : Option Kind) → kind_of f x ≡ o → passes has_characters o ≡ true → has x f ≡ true
  by_kind None is e = absurd (cc)
  by_kind (Some kind) is e = sym (is_some-kind_of f x) ∙ ap is_some is

  by_test : (b : Bool) → is_at has_characters f x ≡ b → (is_among k (filter (is_at has_characters f) xs) ≡ true → has k f ≡ true)
      → is_among k (cond b (x ∷ filter (is_at has_characters f) xs) (filter (is_at has_characters f) xs)) ≡ true → has k f ≡ true
  by_test false is again e = again e
  by_test true is again e = elim (eqb_tells x k) [
    | inl own ↦ ap (λ q. has q f) (sym own.1) ∙ by_kind (kind_of f x) refl is
    | inr other ↦ again (grind (arith, e, other.0))
  ]

start_there : (f : Forest) (start end : Point) (kind : PointKind) (k : ℕ) → has start.key f ≡ true
    → is_among k (map (λ p. p.key) (start_piece f start end kind)) ≡ true → has k f ≡ true
start_there f start end point.Text k so e = let same : start.key ≡ k = grind (arith, e, eqb_tells start.key k) in ap (λ q. has q f) (sym same) ∙ so
start_there f start end point.Element k so e = absurd (cc)

end_there : (f : Forest) (start end : Point) (kind : PointKind) (k : ℕ) → has end.key f ≡ true
    → is_among k (map (λ p. p.key) (end_piece start end kind)) ≡ true → has k f ≡ true
end_there f start end point.Text k so e = by_test (eqb start.key end.key) e where
  by_test : (b : Bool) → is_among k (map (λ p. p.key) (cond b [] (piece end.key 0 end.offset ∷ []))) ≡ true → has k f ≡ true
  by_test true e = absurd (cc)
  by_test false e = let same : end.key ≡ k = grind (arith, e, eqb_tells end.key k) in ap (λ q. has q f) (sym same) ∙ so
end_there f start end point.Element k so e = absurd (cc)

pieces_there : (f : Forest) (start end : Point) (k : ℕ) → has start.key f ≡ true → has end.key f ≡ true
    → is_among k (map (λ p. p.key) (pieces f start end)) ≡ true → has k f ≡ true
pieces_there f start end k first second e =
    let inner : List ℕ = filter (is_at has_characters f) (covered f start end) in
    let all = kept_among (λ p. p.key) (λ p. nat_lt p.from p.to)
    (start_piece f start end start.kind ++ (map (whole f) inner ++ end_piece start end end.kind)) k e in
    let parts : is_among k (map (λ p. p.key) (start_piece f start end start.kind) ++ (inner ++ map (λ p. p.key) (end_piece start end end.kind)))
    ≡ true =
    sym (ap (is_among k)
    (joined_keys (λ p. p.key) (start_piece f start end start.kind) (map (whole f) inner ++ end_piece start end end.kind)
    ∙ ap (λ ks. map (λ p. p.key) (start_piece f start end start.kind) ++ ks)
    (joined_keys (λ p. p.key) (map (whole f) inner) (end_piece start end end.kind)
    ∙ ap (λ ks. ks ++ map (λ p. p.key) (end_piece start end end.kind)) (whole_keys f inner)))) ∙ all in
    map_among (map (λ p. p.key) (start_piece f start end start.kind)) (inner ++ map (λ p. p.key) (end_piece start end end.kind)) k (has k f ≡ true)
    (start_there f start end start.kind k first)
    (map_among inner (map (λ p. p.key) (end_piece start end end.kind)) k (has k f ≡ true) (passes_there f (covered f start end) k)
    (end_there f start end end.kind k second)) parts

-- ---- the command

format_still : (bit : ℕ) (r : Ranged) (w v : Working) (q : ℕ) → IsSound w → range_of w ≡ Ok r → format_text_step bit w ≡ Ok v → has q w.forest ≡ true
    → IsApartFrom (covered_texts w.forest r) w.forest q → Still w.forest v.forest q
unfolding format_text_step
format_still bit r w v q sound range e so apart =
    let f : Forest = w.forest in
    let is = range_lies w r range in
    let here : formatted bit (pieces f (start_of f r) (end_of f r)) r.format w ≡ Ok v =
    sym (ap (λ x. after x (λ r. formatted bit (pieces f (start_of f r) (end_of f r)) r.format w)) range) ∙ e in
    let there : (p : Point) → lies f p ≡ true → has p.key f ≡ true =
    λ p place. attached_there f p.key (both (is_attached f p.key) (lies_in f p) place).0 in
    let start : has (start_of f r).key f ≡ true = either_point r.anchor r.focus (comes_first f r.anchor r.focus) (there r.anchor is.anchor)
    (there r.focus is.focus) in
    let end : has (end_of f r).key f ≡ true = either_point r.focus r.anchor (comes_first f r.anchor r.focus) (there r.focus is.focus)
    (there r.anchor is.anchor) in
    formatted_still bit (pieces f (start_of f r) (end_of f r)) r.format w v q (fit_of w r sound.ready sound.held sound.short is) here so
    (λ k among. pieces_there f (start_of f r) (end_of f r) k start end among) apart where
      either_point : (a b : Point) (t : Bool) → has a.key w.forest ≡ true → has b.key w.forest ≡ true → has (cond t a b).key w.forest ≡ true
      either_point a b true x y = x
      either_point a b false x y = y

pub told-formatting : FormattingKeepsText
told-formatting = record {
  read = λ bit w v sound e. format_unread bit w v sound e;
  others = λ bit r w v q sound range e so apart.
      let still = format_still bit r w v q sound range e so apart in (still.label, still.children);
}

-- What numbering can rely on. A draft of what is committed began with a tree whose items have their numbers, and so did a
-- document's, which began with the root alone. Settling takes nothing of that away.
use Rattle.std.proofs.Common.{◌≡◌, ◌∙◌, ◌⊎◌, ℕ, eqb, Bool, true, false, is_some, List, Option, None, Some, Ok, refl, sym, ap, subst, arith, inl, inr}
use Rattle.std.proofs.lemmas.Bool.Decides.{eqb_tells}
use Rattle.lx_node.specs.declared.kind.Kind.{Kind}
use Rattle.lx_node.specs.declared.kind.Kind.TheVariants.{Root}
use Rattle.lx_marks.specs.Marks.{unmarked, is_touched}
use Rattle.lx_forest.specs.Forest.{Forest, root_alone}
use Rattle.lx_forest.specs.Lookups.{has, kind_of, spot, is_attached, IsForest}
use Rattle.lx_forest.specs.Records.{record_at}
use Rattle.lx_forest.proofs.Edits.{is_some-spot, has-root}
use Rattle.lx_forest.proofs.Records.{is_some-record_at}
use Rattle.lx_draft.specs.Working.{Working}
use Rattle.lx_draft.specs.Covering.{Covers}
use Rattle.lx_draft.specs.Covering as drafts
use Rattle.lx_draft.proofs.Covered.{covers-then, covered-self}
use Rattle.lx_rules.specs.Answers.{Answers}
use Rattle.lx_settle.specs.Laws.{AreMarked}
use Rattle.lx_settle.specs.Settling.{settle_step}
use Rattle.lx_settle.proofs.Ends.{settling_ends}
use Rattle.lx_list.specs.Began.{BeganNumbered}
use Rattle.lx_json.specs.Importing.{IsImported}
use Rattle.lx_editor.specs.Judged.{IsFresh, MayRest}
use Rattle.lx_editor.proofs.Updated.{root_in_order, root_numbered}

-- ---- a draft of what is committed

pub fresh_rests : (u w : Working) → IsFresh u → drafts.AreCovered u w → MayRest w
fresh_rests u w fresh c = record {
  ready = c.ready;
  began = record {
    before = u.forest;
    in_order = fresh.state.in_order;
    whole = fresh.state.start.whole;
    numbered = fresh.state.numbered;
    marks = subst (λ m. Covers u.forest m w.forest w.marks) fresh.marks c.marks;
    kinds = c.kinds;
  };
}

-- ---- a document

absent : {X : Type 0} (o : Option X) → is_some o ≡ false → o ≡ None
absent None e = refl
absent (Some x) e = absurd (cc)

-- the root is alone
alone_is : (q : ℕ) → has q root_alone ≡ true → q ≡ 0
alone_is q there = grind (arith, there, eqb_tells 0 q, eqb_tells q 0)

alone_other : (f : Forest) (q : ℕ) → IsForest f → has q f ≡ false → has q root_alone ≡ false
alone_other f q order out = by_test (has q root_alone) refl where
  by_test : (there : Bool) → has q root_alone ≡ there → has q root_alone ≡ false
  by_test false is = is
  by_test true is =
      absurd (let root : has 0 f ≡ true = has-root f order in let same : q ≡ 0 = alone_is q is in let here : has q f ≡ true = ap (λ k. has k f) same
      ∙ root in cc)

alone_attached : (q : ℕ) → has q root_alone ≡ true → is_attached root_alone q ≡ true
alone_attached q there = subst (λ k. is_attached root_alone k ≡ true) (sym (alone_is q there)) refl

alone_kind : (q : ℕ) (kind : Kind) → kind_of root_alone q ≡ Some kind → (q ≡ 0) × (kind ≡ Root)
alone_kind q kind is = by_test (eqb q 0) refl where
  by_test : (here : Bool) → eqb q 0 ≡ here → (q ≡ 0) × (kind ≡ Root)
  by_test true e =
      let same : q ≡ 0 = grind (arith, e, eqb_tells q 0) in
      let found : Some Root ≡ Some kind = sym (ap (kind_of root_alone) same) ∙ is in (same, cc)
  by_test false e = absurd (grind (arith, is, e, eqb_tells q 0, eqb_tells 0 q))

module _ (next : ℕ) (w : Working) (im : IsImported next w) where
  same_marks : w.marks ≡ w.fresh
  same_marks = im.covered.same refl

  seen : (q : ℕ) → ((spot w.forest q ≡ spot root_alone q) × (record_at w.forest q ≡ record_at root_alone q)) ⊎ (is_touched w.marks q ≡ true)
  seen q = by_test (has q w.forest) refl where
    by_test : (there : Bool) → has q w.forest ≡ there
        → ((spot w.forest q ≡ spot root_alone q) × (record_at w.forest q ≡ record_at root_alone q)) ⊎ (is_touched w.marks q ≡ true)
    by_test true there = inr (ap (λ m. is_touched m q) same_marks ∙ im.all_marked q there)
    by_test false out =
        let before : has q root_alone ≡ false = alone_other w.forest q im.order out in
        inl (
          absent (spot w.forest q) (is_some-spot w.forest q ∙ out) ∙ sym (absent (spot root_alone q) (is_some-spot root_alone q ∙ before)),
          absent (record_at w.forest q) (is_some-record_at w.forest q ∙ out) ∙ sym (absent (record_at root_alone q) (is_some-record_at root_alone q ∙ before)),
        )

  kept_kind : (q : ℕ) (kind : Kind) → kind_of root_alone q ≡ Some kind → kind_of w.forest q ≡ Some kind
  kept_kind q kind is =
      let root = alone_kind q kind is in
      ap (kind_of w.forest) root.0 ∙ im.order.root ∙ ap (λ k. Some k) (sym root.1)

  pub import_rests : MayRest w
  import_rests = record {
    ready = im.covered.ready;
    began = record {
      before = root_alone;
      in_order = root_in_order;
      whole = alone_attached;
      numbered = root_numbered;
      marks = record {
        touched = λ q e. absurd (cc);
        noted = λ q e. absurd (cc);
        seen = seen;
        above = λ up. im.covered.marks.above (λ q p e below. absurd (cc));
      };
      kinds = record { each = kept_kind };
    };
  }

-- ---- settled

pub began_settled : (rules : List Answers) (w v : Working) → MayRest w → settle_step rules w ≡ Ok v → BeganNumbered v
began_settled rules w v may settled =
    let m : AreMarked w v = settling_ends.covers rules w w v (covered-self w may.ready) settled in
    record {
      before = may.began.before;
      in_order = may.began.in_order;
      whole = may.began.whole;
      numbered = may.began.numbered;
      marks = covers-then may.began.before w.forest v.forest unmarked w.marks v.marks may.began.marks m.marks;
      kinds = record { each = λ q kind e. m.kinds.each q kind (may.began.kinds.each q kind e) };
    }

-- What the last block of a selection has after it is shared by the two blocks once they are joined.
use Rattle.lx_blocks.specs.Blocks.{leading}
use Rattle.lx_caret_laws.proofs.Emptied.{Emptied}
use Rattle.lx_caret_laws.proofs.Going.{going}
use Rattle.lx_caret_laws.proofs.InPlace.{below_parent, keys-level}
use Rattle.lx_caret_laws.proofs.JoinedKeys.{last_keys, same_keys}
use Rattle.lx_caret_laws.proofs.JoinedOver.{Blocks, first_block, front_is, gone, joining, left_there, moved_keys, rest_is, silent_g, silent_last, split}
use Rattle.lx_caret_laws.proofs.KeysLeft.{holder_there}
use Rattle.lx_caret_laws.proofs.Merged.{Setting}
use Rattle.lx_caret_laws.proofs.ReadOver.{said-append, said-same}
use Rattle.lx_caret_laws.specs.Reading.{read_in, said_by}
use Rattle.lx_caret_laws.specs.Spans.{Share}
use Rattle.lx_draft.proofs.Gaps.{parent_here}
use Rattle.lx_draft.specs.Working.{Working}
use Rattle.lx_edit.specs.Edits.{moved_to_end, remove_step}
use Rattle.lx_edit.specs.InTurn.{in_turn}
use Rattle.lx_edit_laws.proofs.Reading.{spread, spread-same}
use Rattle.lx_forest.proofs.Lookups.{has-child}
use Rattle.lx_forest.proofs.Within.{is_within-parent, is_within-trans}
use Rattle.lx_forest.specs.Lookups.{has, is_within, keys_within, parent_of, size_of}
use Rattle.lx_node.specs.declared.fields.TextFields.{TextFields}
use Rattle.lx_text.specs.Texts.{is_offset}
use Rattle.lx_trees.proofs.Siblings.{is_among-append}
use Rattle.lx_trees.specs.Siblings.{is_among}
use Rattle.std.proofs.Common.{List, Ok, Some, ap, arith, cond, eqb, false, inl, inr, sym, true, ℕ, ◌++◌, ◌∙◌, ◌∷◌, ◌≡◌}
use Rattle.std.proofs.lemmas.Bool.{cases_Bool}

module _ (s e i j : ℕ) (one other : TextFields) (a m z : List ℕ) (w g u v : Working) (x : Setting s e one other a m z w)
    (d : Emptied s e i j one other (going w.forest s e a m z x.between) w g) (p b : ℕ) (k : Blocks g.forest s e p b)
    (ended : cond (eqb (size_of u.forest b) 0) (remove_step b u) (Ok u) ≡ Ok v) (moved : in_turn (moved_to_end p) (leading g.forest b) g ≡ Ok u) where
  abbrev pub rest : List ℕ
  rest = (split s e i j one other a m z w g u v x d p b k ended moved).0

  abbrev pub stayed : List ℕ
  stayed = spread (keys_within g.forest) rest

  -- what stays in the last block is what its other children have
  last_then : read_in v.forest b ≡ said_by g.forest stayed
  last_then =
      let j1 = joining s e i j one other a m z w g u v x d p b k ended moved in
      let there : has b u.forest ≡ true = j1.there b (holder_there g.forest b e k.last) in
      let same : spread (keys_within u.forest) rest ≡ stayed =
      spread-same (keys_within u.forest) (keys_within g.forest) rest (λ c at.
      let up : parent_of g.forest c ≡ Some b =
      parent_here g.forest b c d.ordered (ap (is_among c) j1.parts ∙ is_among-append c (leading g.forest b) rest ∙ grind (arith, at)) in
      let out : is_within g.forest c p ≡ false = elim (cases_Bool (is_within g.forest c p)) [
        | inl bad ↦ absurd (grind (
          arith,
          k.apart,
          is_within-trans g.forest b c p d.ordered (below_parent g.forest c b d.ordered up) bad,
        ))
        | inr fine ↦ fine
      ] in
      same_keys g.forest u.forest s e p b (leading g.forest b) rest j1 c (has-child g.forest c b up) out
      (is_within-parent g.forest c b d.ordered up)) in
      (gone s e i j one other a m z w g u v x d p b k ended moved).0.reads b there
      ∙ ap (said_by u.forest) (keys-level u.forest b j1.order_after there
      ∙ ap (λ cs. b ∷ spread (keys_within u.forest) cs) (left_there s e i j one other a m z w g u v x d p b k ended moved)
      ∙ ap (λ t. b ∷ t) same)
      ∙ ap (λ t. t ++ said_by u.forest stayed) (silent_last s e i j one other a m z w g u v x d p b k ended moved)
      ∙ said-same g.forest u.forest stayed (λ q at. j1.says q)

  pub blocks_share : is_offset i one.text ≡ true → is_offset j other.text ≡ true → Share p b s e i j w v
  blocks_share in_first in_last =
      let j1 = joining s e i j one other a m z w g u v x d p b k ended moved in
      let went : List ℕ = moved_keys s e i j one other a m z w g u v x d p b k ended moved in
      let whole : read_in g.forest b ≡ said_by g.forest went ++ said_by g.forest stayed =
      ap (said_by g.forest) (last_keys g.forest u.forest s e p b (leading g.forest b) rest j1)
      ∙ ap (λ t. t ++ said_by g.forest (went ++ stayed)) (silent_g s e i j one other a m z w g u v x d p b k ended moved)
      ∙ said-append g.forest went stayed in
      record {
        moved = said_by g.forest went;
        first_reads = first_block s e i j one other a m z w g u v x d p b k ended moved
            ∙ ap (λ t. t ++ said_by g.forest went) (front_is s e i j one other a m z w g u v x d p b k ended moved in_first);
        last_reads = sym (rest_is s e i j one other a m z w g u v x d p b k ended moved in_last) ∙ whole
            ∙ ap (λ t. said_by g.forest went ++ t) (sym last_then);
      }

-- What is kept of an editor between two calls, and what each call does to it.
use Rattle.std.specs.Prelude.{◌≡◌, ◌≤◌, ◌<◌, ◌⊎◌, ◌++◌, ℕ, List, [], length, take, drop, Option, None, Some}
use Rattle.lx_node.specs.Limits.{last_u32}
use Rattle.lx_editor.specs.Editor.{Editor}
use Rattle.lx_editor.specs.Follows.{AnswersLine, IsLeftWithout}
use Rattle.lx_live.specs.declared.editor.LiveEditor.{LiveEditor}
use Rattle.lx_live.specs.declared.editor.CallEnd.{CallEnd}
use Rattle.lx_live.specs.declared.editor.CallEnd.TheVariants.{Done, Closed, Memory, TooLong, Spent}

-- the most bytes that a line may have: as many as an input of the program
abbrev pub line_limit : ℕ
line_limit = 16777216

-- the number that tells how a call ended
abbrev pub number_of_end : CallEnd → ℕ
number_of_end Done = 0
number_of_end Closed = 1
number_of_end Memory = 5
number_of_end TooLong = 6
number_of_end Spent = 7

-- ---- outputs

-- what goes into so much room of a reply from a place on
abbrev pub reply_piece : List ℕ → ℕ → ℕ → List ℕ
reply_piece reply from room = take room (drop from reply)

-- an output with these bytes in front, and behind them what was there
abbrev pub with_in_front : List ℕ → List ℕ → List ℕ
with_in_front front before = front ++ drop (length front) before

-- The output begins with what goes in of the reply from the place on. The length is that of the whole reply.
pub record IsPiecePut (reply : List ℕ) (from : ℕ) (before after : List ℕ) (size : ℕ) : Type 0 where
  pub tells : size ≡ length reply
  pub put : after ≡ with_in_front (reply_piece reply from (length before)) before

-- the output stays, and the length is 0
abbrev pub IsNothingPut : List ℕ → List ℕ → ℕ → Type 0
IsNothingPut before after size = (after ≡ before) × (size ≡ 0)

-- ---- calls with a line

-- The line isn't too long, and the editor can make one commit more.
pub record CanAnswer (live : LiveEditor) (line : List ℕ) : Type 0 where
  pub fits : length line ≤ line_limit
  pub numbered : live.editor.commits < last_u32

-- A call with this line on this editor may end so, leave the new one, and put this. The answer is one that the plain editor allows. At
-- each other end nothing is put, and the reply before is kept; only a want of memory may change the editor, as the line says.
abbrev pub IsCallOn : CallEnd → LiveEditor → LiveEditor → List ℕ → List ℕ → List ℕ → ℕ → Type 0
IsCallOn Done old new line before after size =
    CanAnswer old line × AnswersLine old.editor line new.reply.items new.editor × IsPiecePut new.reply.items 0 before after size
IsCallOn Closed old new line before after size = ⊥
IsCallOn Memory old new line before after size =
    CanAnswer old line × IsLeftWithout old.editor line new.editor × (new.reply ≡ old.reply) × IsNothingPut before after size
IsCallOn TooLong old new line before after size = (line_limit < length line) × (new ≡ old) × IsNothingPut before after size
IsCallOn Spent old new line before after size =
    (length line ≤ line_limit) × (old.editor.commits ≡ last_u32) × (new ≡ old) × IsNothingPut before after size

-- the same in a slot, which keeps its editor; with none in it nothing is done
abbrev pub IsCallIn : CallEnd → Option LiveEditor → Option LiveEditor → List ℕ → List ℕ → List ℕ → ℕ → Type 0
IsCallIn end None None line before after size = (end ≡ Closed) × IsNothingPut before after size
IsCallIn end (Some old) (Some new) line before after size = IsCallOn end old new line before after size
IsCallIn end None (Some new) line before after size = ⊥
IsCallIn end (Some old) None line before after size = ⊥

-- the same, by the number that is answered
pub record IsLineCall (number : ℕ) (old new : Option LiveEditor) (line before after : List ℕ) (size : ℕ) : Type 0 where
  pub end : CallEnd
  pub number_is : number ≡ number_of_end end
  pub call : IsCallIn end old new line before after size

-- ---- the other calls

-- a call that puts the reply to the line which the slot's editor answered last, from a place on
abbrev pub IsReplyCall : ℕ → Option LiveEditor → ℕ → List ℕ → List ℕ → ℕ → Type 0
IsReplyCall number None from before after size = (number ≡ number_of_end Closed) × IsNothingPut before after size
IsReplyCall number (Some live) from before after size = (number ≡ number_of_end Done) × IsPiecePut live.reply.items from before after size

-- the slot has this editor, which has answered nothing
abbrev pub HasNewEditor : Editor → Option LiveEditor → Type 0
HasNewEditor editor None = ⊥
HasNewEditor editor (Some live) = (live.editor ≡ editor) × (live.reply.items ≡ [])

-- a call that opens this editor in a slot, or leaves the slot as it was where memory is wanting
abbrev pub IsOpenCall : ℕ → Editor → Option LiveEditor → Option LiveEditor → Type 0
IsOpenCall number editor old new = ((number ≡ number_of_end Done) × HasNewEditor editor new) ⊎ ((number ≡ number_of_end Memory) × (new ≡ old))

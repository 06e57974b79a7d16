-- The bytes of a reply are the text of its data, since each part of it has sent the tokens of its own.
use Rattle.std.proofs.Common.{◌≡◌, ◌∙◌, ap, refl, ℕ, List, [], ◌++◌, false, ◌||◌, Option, None, Some}
use Rattle.json.specs.Print.{print}
use Rattle.json.specs.Tree.{json_tokens}
use Rattle.json.specs.Written.{Written}
use Rattle.serde_json.proofs.Texts.{print-outline}
use Rattle.serde_json.specs.Data.{Data}
use Rattle.serde_json.specs.Written.{compact_text, has_float, outline}
use Rattle.lx_script.specs.Replies.{reply_data, reply_text, shown_slice_data, slice_text, state_data, state_text}
use Rattle.lx_script.specs.Sent.{Tells}
use Rattle.lx_script.specs.declared.reply.Reply.{Reply}

pub text_of_reply : (reply : Reply) (begun done : Written) (bytes : List ℕ) → begun.before ≡ [] → begun.tokens ≡ []
    → Tells (reply_data reply) begun done → bytes ≡ done.before ++ print done.tokens → bytes ≡ reply_text reply
unfolding reply_text
text_of_reply reply begun done bytes nothing none told is =
    is
    ∙ ap (λ before. before ++ print done.tokens) (told.0 ∙ nothing)
    ∙ ap print (told.1 ∙ ap (λ ts. ts ++ json_tokens (outline (reply_data reply))) none)
    ∙ print-outline (reply_data reply)

-- ---- documents, which are values first: their text is known where they have no float

-- the reply that shows a document without a float has none
has_float-state_data : (document : Data) → has_float document ≡ false → has_float (state_data document) ≡ false
has_float-state_data document whole = rw whole refl

pub text_of_state : (document d : Data) (bytes : List ℕ) → d ≡ state_data document → has_float document ≡ false → (has_float d ≡ false → bytes ≡ compact_text d)
    → bytes ≡ state_text document
unfolding state_text
text_of_state document d bytes is whole written = written (ap has_float is ∙ has_float-state_data document whole) ∙ ap compact_text is

slice-whole : (slice : Option Data) → ((d : Data) → slice ≡ Some d → has_float d ≡ false) → has_float (shown_slice_data slice) ≡ false
slice-whole None whole = refl
slice-whole (Some d) whole = ap (λ b. b || false) (whole d refl)

pub text_of_slice : (slice : Option Data) (d : Data) (bytes : List ℕ) → d ≡ shown_slice_data slice → ((d : Data) → slice ≡ Some d → has_float d ≡ false)
    → (has_float d ≡ false → bytes ≡ compact_text d) → bytes ≡ slice_text slice
unfolding slice_text
text_of_slice slice d bytes is whole told = told (ap has_float is ∙ slice-whole slice whole) ∙ ap compact_text is

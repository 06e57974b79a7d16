-- Tags that are read word by word.
use Rattle.std.proofs.Common.{◌≡◌, ℕ, List, ◌||◌, codes, option_map}
use Rattle.serde_json.specs.Data.{Items}
use Rattle.serde_json.specs.Find.{as_str}
use Rattle.lx_step.specs.declared.line.Tags.{Tags}
use Rattle.lx_script.specs.Grammar.{is_tagged, tags_among}
use Rattle.lx_fields.specs.Values.{all_of}

-- what tags say with more words
abbrev pub tags_with : Tags → List (List ℕ) → Tags
tags_with seen words =
    record {
      historic = seen.historic || is_tagged (codes "historic") words;
      merge = seen.merge || is_tagged (codes "history-merge") words;
      push = seen.push || is_tagged (codes "history-push") words;
    }

-- what the tags so far say, with the words that are left, is what all say
abbrev pub IsTagged : Tags → Items → Items → Type 0
IsTagged seen left all = option_map (tags_with seen) (all_of as_str left) ≡ option_map tags_among (all_of as_str all)

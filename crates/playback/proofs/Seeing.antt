-- The replay with the filter that is kept is the replay over its own word: line by line (records, InItsWord).
use mathlib.Core.Path.{◌≡◌, refl, sym, ap, ◌∙◌}
use mathlib.Core.List.{List, [], ◌∷◌, ◌++◌}
use Prim.Native.Nat.{ℕ, suc}
use Rattle.words.specs.Words.{word, wrap}
use Rattle.sums.specs.State.{zeroed}
use Rattle.records.specs.Sessions.{own_words, kept_words, line_of}
use Rattle.records.specs.Seen.{seen}
use Rattle.records.proofs.Seeing.{in_its_word}
use Rattle.playback.specs.Replays.{output_line, answered, replay_from, unopened}
use Rattle.records.specs.declared.session.Session.{Session}
use Rattle.records.specs.declared.session.Reply.{Reply}
use Rattle.records.specs.declared.session.Taken.{Taken}

answered-same : (r : Reply) (line outputs : ℕ) (a b : ℕ → List ℕ) → ((k : ℕ) → a k ≡ b k)
    → answered r line outputs a ≡ answered r line outputs b
answered-same Reply.Silent line outputs a b h = h outputs
answered-same (Reply.Output y) line outputs a b h = ap (λ (l : List ℕ). output_line y.value y.told ++ l) (h (suc outputs))
answered-same (Reply.Bad f) line outputs a b h = refl

-- a line's answer, and what follows it
abbrev on : Taken → ℕ → ℕ → List (List ℕ) → List ℕ
on t n k rest = answered t.reply (suc n) k (λ j. replay_from own_words t.session (suc n) j rest)

pub replay-seen : (s : Session) (n k : ℕ) (lines : List (List ℕ))
    → replay_from kept_words s n k lines ≡ replay_from own_words (seen s) n k lines
unfolding replay_from
replay-seen s n k [] = refl
replay-seen s n k (last ∷ []) = refl
replay-seen s n k (line ∷ next ∷ rest) =
    let t = line_of kept_words s line in
    answered-same t.reply (suc n) k (λ j. replay_from kept_words t.session (suc n) j (next ∷ rest))
    (λ j. replay_from own_words (seen t.session) (suc n) j (next ∷ rest))
    (λ j. replay-seen t.session (suc n) j (next ∷ rest))
    ∙ ap (λ (x : Taken). on x n k (next ∷ rest)) (sym (in_its_word s line))

pub seen-unopened : seen unopened ≡ unopened
unfolding zeroed wrap word
seen-unopened = refl

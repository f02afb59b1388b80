-- How writing ends.
use native.Mathlib.Omega.{arith}
use mathlib.Core.Path.{◌≡◌, sym, ap, ◌∙◌}
use mathlib.Core.List.{List}
use Prim.Native.Nat.{ℕ, zero, suc, ◌+◌, ◌≤◌, ◌<◌}
use lib.ListN.{length, take, drop}
use lib.Seq.{take_at}
use borrow.Author.Tests.{le-leb, lt-leb, eq-eqb, ne_eqb}
use Rattle.std.specs.Prelude.{Result, Ok, Err}
use Rattle.blocks.specs.declared.refusal.Refusal.{Refusal}
use Rattle.blocks.specs.Refusals.{refusal_at, answer}
use Rattle.blocks.proofs.Refusals.{taken_number, taken_value}
use Rattle.text.specs.Writing.{Puts, overlaid}
use Rattle.text.proofs.Putting.{puts_same, written}
use Rattle.settings_text.specs.declared.version.Version.{Version}
use Rattle.entries.specs.Entries.{number_as}
use Rattle.store_write.specs.Saving.{SavesAs, text_as}
use Rattle.store_write.specs.Writing.{Composing}
use Rattle.entries.specs.declared.settings.Settings.{Settings}

-- what refuses has a number
refusing : (k n : ℕ) (r : Refusal) → ◌≡◌ {A = Result ℕ Refusal} (Err r) (answer k n) → (k ≡ 0 → ⊥) × (r ≡ refusal_at k)
unfolding answer
refusing zero n r e = cc
refusing (suc k) n r e = (λ z. absurd (omega arith), cc)

module _ (v : Version) (s : Settings) (o b b' : List ℕ) where
  pub bad_list : (r : Refusal) → Composing v s b (Err r) b' → SavesAs v s o (Err r) o
  bad_list r c =
      let d = refusing (number_as v s) (length (text_as v s)) r c.judged in
      let n = d.0 in
      record { answer = rw (ne_eqb _ _ n) (ap (λ (x : Refusal). Err x) d.1); written = rw (ne_eqb _ _ n) }

  module _ (end : ℕ) (c : Composing v s b (Ok end) b') where
    none : number_as v s ≡ 0
    none = taken_number (number_as v s) (length (text_as v s)) end c.judged

    pub end_is : end ≡ length (text_as v s)
    end_is = taken_value (number_as v s) (length (text_as v s)) end c.judged

    pub end_most : (end ≤ 9030) × (length b' ≡ length b)
    end_most = let w = c.wrote none in (omega (arith, end_is, w.high), c.long)

    text_in : take end b' ≡ text_as v s
    unfolding overlaid
    text_in = rw (c.wrote none).wrote.text (take_at (text_as v s) (drop (0 + length (text_as v s)) b) end (sym end_is))

    pub short_slice : length o < end → SavesAs v s o (Err Refusal.ShortOutput) o
    unfolding refusal_at
    short_slice h = let l : length o < length (text_as v s) = omega
        (arith, end_is) in record { answer = rw (eq-eqb _ _ none, lt-leb _ _ l); written = rw (eq-eqb _ _ none, lt-leb _ _ l) }

    pub all_written : (r : ℕ) (o' : List ℕ) → end ≤ length o → Puts o 0 (take end b') r o' → SavesAs v s o (Ok end) o'
    all_written r o' h p =
        let l : length (text_as v s) ≤ length o = omega (arith, end_is) in
        let q : Puts o 0 (text_as v s) r o' = puts_same text_in p in
        let w = written o 0 (text_as v s) r o' (omega arith) q in
        record {
          answer = rw (eq-eqb _ _ none, le-leb _ _ l) (ap (λ (n : ℕ). Ok n) end_is);
          written = rw (eq-eqb _ _ none, le-leb _ _ l) w.text;
        }

-- the promise settles the call: two results that it allows are one
pub settled : {v : Version} {s : Settings} {o : List ℕ} {q r : Result ℕ Refusal} {us vs : List ℕ} → SavesAs v s o q us → SavesAs v s o r vs → (q ≡ r) × (us ≡ vs)
settled p t = (p.answer ∙ sym t.answer, p.written ∙ sym t.written)

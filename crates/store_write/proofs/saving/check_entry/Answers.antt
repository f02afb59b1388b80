-- The name's test, then what reading asks.
use Rattle.std.proofs.Common.{◌≡◌, map, length, refl, sym, ap, rules, ◌∙◌, ℕ}
use Rattle.std.specs.Int.{w32}
use Rattle.blocks.specs.Refusals.{answer, refusal_at}
use Rattle.words.specs.Words.{wrap}
use Rattle.settings_text.specs.Fields.{is_name}
use Rattle.entries.specs.Entries.{name_bytes, number_for}
use Rattle.store_write.proofs.Judging.{name-long, name_wrong, kind_wrong, kind_right, room_law, few_letters, few-sections}
use Rattle.store_write.proofs.saving.check_entry.Goals as goal

pub returns-then-entry-gt16 : goal.returns-then-entry-gt16
unfolding answer refusal_at
returns-then-entry-gt16 c =
    let e = c.args.entry in
    let l : length e.a ≡ 8 = search rules in
    let b : length e.name.bytes ≡ 16 = search rules in
    record {
      number = rw (← name-long c.args.version c.args.k (name_bytes c.args.last.now) e l b c.if-entry-gt16.true) refl;
      room = tt;
    }

pub returns-then-not-is_name : goal.returns-then-not-is_name
unfolding answer refusal_at
returns-then-not-is_name c =
    let e = c.args.entry in
    let l : length e.a ≡ 8 = search rules in
    let b : length e.name.bytes ≡ 16 = search rules in
    record {
      number = rw (← name_wrong c.args.version c.args.k (name_bytes c.args.last.now) e l b c.if-entry-gt16.false
          (ap is_name (sym c.letters.ensures) ∙ sym c.is_name.ensures ∙ c.if-not-is_name.true)) refl;
      room = tt;
    }

pub returns-then-not-allowed : goal.returns-then-not-allowed
unfolding answer refusal_at
returns-then-not-allowed c =
    let e = c.args.entry in
    let l : length e.a ≡ 8 = search rules in
    let b : length e.name.bytes ≡ 16 = search rules in
    record {
      number = rw (← kind_wrong c.args.version c.args.k (name_bytes c.args.last.now) e l b c.if-entry-gt16.false
          (ap is_name (sym c.letters.ensures) ∙ sym c.is_name.ensures ∙ c.if-not-is_name.false) (sym c.allowed.ensures ∙ c.if-not-allowed.true)) refl;
      room = tt;
    }

pub returns : goal.returns
returns c =
    let e = c.args.entry in
    let l : length e.a ≡ 8 = search rules in
    let b : length e.name.bytes ≡ 16 = search rules in
    let n = c.check.ensures ∙ ap (λ (n : ℕ). answer n tt)
    (kind_right c.args.version c.args.k (name_bytes c.args.last.now) e l b c.if-entry-gt16.false
    (ap is_name (sym c.letters.ensures) ∙ sym c.is_name.ensures ∙ c.if-not-is_name.false)
    (number_for c.args.version c.args.k (name_bytes c.args.last.now) (name_bytes e.name) e.kind (map (wrap w32) e.a))
    (sym c.allowed.ensures ∙ c.if-not-allowed.false) refl) in
    record {
      number = n;
      room = room_law _ _ _ n
          (λ z. (few_letters c.args.version c.args.k (name_bytes c.args.last.now) e l b z, few-sections c.args.version c.args.k (name_bytes c.args.last.now) e l b z));
    }

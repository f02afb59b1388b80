-- A record is judged, and its line is put behind the others.
use Rattle.std.proofs.Common.{◌≡◌, ℕ, length, arith, rules, refl, sym, ap, subst, ◌∙◌}
use Rattle.std.specs.Prelude.{Ok}
use Rattle.std.proofs.lemmas.Result.{err_from_is_err_and}
use Rattle.blocks.specs.Refusals.{answer, refusal_at}
use Rattle.blocks.proofs.Refusals.{accepted, refused_too, taken_number}
use Rattle.settings_text.specs.Lines.{form_of}
use Rattle.settings_text.specs.Stores.{text_of}
use Rattle.entries.specs.Entries.{name_bytes, records_in}
use Rattle.entries.proofs.Arrays.{unmapped}
use Rattle.store_write.specs.Writing.{Ended}
use Rattle.store_write.proofs.Judging.{judged_all, judged_bad, judged_many, judged_on, judging_none, lines_all}
use Rattle.store_write.proofs.Judging.{lines_none, lines_on, nonzero}
use Rattle.store_write.proofs.saving.compose.Goals as goal

pub loop-i-init : goal.loop-i-init
loop-i-init c = record {
  judging = judging_none _ _ _ _ (ap name_bytes c.no_name-last.ensures);
  lines = lines_none c.args.settings.entries _ _;
}

pub returns-then-i-ge64 : goal.returns-then-i-ge64
unfolding answer refusal_at
returns-then-i-ge64 c =
    let a = c.args in
    let l : length a.settings.entries ≡ 64 = search (unmapped, rules) in
    let n = judged_many a.version a.settings.entries a.settings.count c.loop-i.last c.loop-i.i l c.loop-i.invariant.judging
    c.loop-i-test.true c.if-i-ge64.true in
    record {
      judged = rw (← n) refl;
      wrote = λ z. absurd (omega arith);
      long = c.loop-i.invariant.lines.long ∙ c.put_heading-end.ensures.long;
    }

pub returns-in_err-check_entry : goal.returns-in_err-check_entry
returns-in_err-check_entry c =
    let a = c.args in
    let l : length a.settings.entries ≡ 64 = search (unmapped, rules) in
    let p = err_from_is_err_and c.from_residual.result c.from_residual.ensures.1 in
    let h = c.in_err-check_entry.ensures.number in
    let d = nonzero _ _ _ h in
    let n = judged_bad a.version a.settings.entries a.settings.count c.loop-i.last c.loop-i.i l c.loop-i.invariant.judging
    c.loop-i-test.true c.if-i-ge64.false _ _ refl _ refl d in
    let t = length (text_of (form_of a.version) (records_in a.settings)) in
    rw (p.1, p.2) (record {
      judged = refused_too _ _ t _ h ∙ ap (λ (k : ℕ). answer k t) n;
      wrote = λ z. absurd (d (n ∙ z));
      long = c.loop-i.invariant.lines.long ∙ c.put_heading-end.ensures.long;
    })

pub put_line-end-requires : goal.put_line-end-requires
put_line-end-requires c =
    let h = c.loop-i.invariant.lines.high in
    let g = c.loop-i.invariant.lines.long in
    let x = c.put_heading-end.ensures.high in
    let y = c.put_heading-end.ensures.long in
    let s = c.in_ok-check_entry.ensures.room in
    (omega arith, s.1, s.0)

pub loop-i-preserved : goal.loop-i-preserved
loop-i-preserved c =
    let a = c.args in
    let l : length a.settings.entries ≡ 64 = search (unmapped, rules) in
    let x = c.put_heading-end.ensures.high in
    let y = c.put_heading-end.ensures.long in
    let s = c.in_ok-check_entry.ensures.room in
    let z = taken_number _ _ _ c.in_ok-check_entry.ensures.number in
    record {
      judging = judged_on a.version a.settings.entries a.settings.count c.loop-i.last c.loop-i.i l c.loop-i.invariant.judging
          c.loop-i-test.true c.if-i-ge64.false _ _ refl _ refl z s.0;
      lines = lines_on a.settings.entries _ _ c.loop-i.i _ _ _ _ _ _ (omega arith) refl (omega arith) c.loop-i.invariant.lines
          c.put_line-end.ensures;
    }

pub returns : goal.returns
returns c =
    let a = c.args in
    let l : length a.settings.entries ≡ 64 = search (unmapped, rules) in
    let j = c.loop-i.invariant.judging in
    let f = j.few in
    let t = text_of (form_of a.version) (records_in a.settings) in
    let n = judged_all a.version a.settings.entries a.settings.count c.loop-i.last c.loop-i.i l j c.loop-i-test.false in
    let w : Ended a.out.now 0 t 9030 c.loop-i.end c.loop-i.out = lines_all a.version a.settings.entries a.settings.count c.loop-i.i _ _ _ _ _
    (omega arith) j.room c.put_heading-end.ensures c.loop-i.invariant.lines in
    let e : c.loop-i.end ≡ length t = w.wrote.next ∙ omega arith in
    record {
      judged = ap (λ (k : ℕ). Ok k) e ∙ accepted _ (length t) (sym n);
      wrote = λ z. subst (λ (k : ℕ). Ended a.out.now 0 t 9030 k c.loop-i.out) e w;
      long = c.loop-i.invariant.lines.long ∙ c.put_heading-end.ensures.long;
    }

use Rattle.std.proofs.Common.{ℕ, ◌*◌, length, ap, ◌∙◌}
use Rattle.std.specs.Prelude.{Result}
use Rattle.std.specs.Result.{result_unwrap_or}
use Rattle.blocks.specs.declared.refusal.Refusal.{Refusal}
use Rattle.blocks.specs.Refusals.{number_in}
use Rattle.capi_wav.proofs.Handed.{counted, write_told}
use Rattle.capi_wav.proofs.mittenload_wav_write_part.Goals as goal

pub returns : goal.returns
returns c =
    let a = c.args in
    let e = c.write_part.ensures in
    let n = 2 * length a.samples.now in
    record {
      answer = c.counted.ensures.0 ∙ ap number_in e.0 ∙ write_told n a.samples.now a.out.now;
      written = e.1;
      count = c.counted.ensures.1 ∙ ap (λ (r : Result ℕ Refusal). result_unwrap_or r a.count.now) e.0 ∙ counted _ n a.count.now;
    }

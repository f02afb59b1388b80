use Rattle.std.proofs.Common.{ℕ, ◌/◌, length, ap, ◌∙◌}
use Rattle.std.specs.Prelude.{Result}
use Rattle.std.specs.Result.{result_unwrap_or}
use Rattle.blocks.specs.declared.refusal.Refusal.{Refusal}
use Rattle.blocks.specs.Refusals.{number_in}
use Rattle.capi_wav.proofs.Handed.{counted, read_told}
use Rattle.capi_wav.proofs.mittenload_wav_read_part.Goals as goal

pub returns : goal.returns
returns c =
    let a = c.args in
    let e = c.read_part.ensures in
    let n = length a.bytes.now / 2 in
    record {
      answer = c.counted.ensures.0 ∙ ap number_in e.0 ∙ read_told n a.bytes.now a.out.now;
      written = e.1;
      count = c.counted.ensures.1 ∙ ap (λ (r : Result ℕ Refusal). result_unwrap_or r a.count.now) e.0 ∙ counted _ n a.count.now;
    }

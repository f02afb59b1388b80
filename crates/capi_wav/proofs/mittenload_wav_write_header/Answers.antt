use Rattle.std.proofs.Common.{ap, ◌∙◌}
use Rattle.blocks.specs.Refusals.{number_in}
use Rattle.capi_wav.proofs.Handed.{head_told}
use Rattle.capi_wav.proofs.mittenload_wav_write_header.Goals as goal

pub returns : goal.returns
returns c =
    let e = c.write_header.ensures in
    record { answer = c.number.ensures ∙ ap number_in e.0 ∙ head_told tt c.args.rate c.args.size c.args.out.now; written = e.1 }

-- Cases of document 01, 'The replay program', and of 02, A1, worked out by the definition.
use mathlib.Core.Path.{◌≡◌, refl}
use mathlib.Core.List.{List, [], ◌∷◌, ◌++◌, map}
use Prim.Native.Nat.{ℕ}
use lib.ListN.{replicate}
use Rattle.text.specs.Letters.{byte, bytes}
use Rattle.text.specs.Numbers.{digits_from, leading_of, plain_of, number_of, spelt}
use Rattle.text.specs.Parts.{parted}
use Rattle.words.specs.Words.{word, wrap}
use Rattle.sums.specs.Machine.{pushed, integrated, summed, less, combed, differed, decimated_at, decimated, given_at, given}
use Rattle.sums.specs.State.{rows, put_rows, view, put, refusal_of, zeroed}
use Rattle.sums.specs.Calls.{new_state, rate_state, clear_state, step_state, step_given}
use Rattle.sums.specs.Counted.{take_number_of, take_state, take_given}
use Rattle.text.specs.Same.{same}
use Rattle.records.specs.Lines.{name_of, record_of}
use Rattle.records.specs.Sessions.{take_of, line_of}
use Rattle.playback.specs.Replays.{output_line, end_line, bad_line, replay_from, replay}

pub record Case : Type 0 where
  pub input : List ℕ
  pub output : List ℕ

pub table : List Case
table =
    record { input = bytes "cic\t1\t1\t1\nx\t3\nx\t5\nx\t-2\n"; output = bytes "y\t3\t0\ny\t3\t0\nend\t2\n" }
    ∷ record { input = []; output = bytes "end\t0\n" }
    ∷ record { input = bytes "x\t3\n"; output = bytes "bad\t1\t71\t0\n" }
    ∷ record { input = bytes "cic\t1\t1\t1\nx\t03\n"; output = bytes "bad\t2\t75\t2\n" }
    ∷ record { input = bytes "cic\t0\t1\t0\nx\t-0\n"; output = bytes "bad\t2\t75\t2\n" }
    -- 02, A2
    ∷ record { input = bytes "\n"; output = bytes "bad\t1\t73\t0\n" }
    ∷ record { input = bytes "clear\t\n"; output = bytes "bad\t1\t74\t0\n" }
    ∷ record { input = bytes "cic\t1\t+1\t4294967296\n"; output = bytes "bad\t1\t75\t3\n" }
    ∷ record { input = bytes "cic\t1\t4294967296\t+1\n"; output = bytes "bad\t1\t76\t3\n" }
    ∷ record { input = bytes "x\t2147483648\n"; output = bytes "bad\t1\t76\t2\n" }
    ∷ record { input = bytes "cic\t9\t1\t1\n"; output = bytes "bad\t1\t10\t0\n" }
    ∷ record { input = bytes "cic\t0\t1\t0\nrate\t65536\n"; output = bytes "bad\t2\t12\t0\n" }
    ∷ record { input = bytes "cic\t0\t1\t0\ncic\t9\t1\t1\n"; output = bytes "bad\t2\t71\t0\n" }
    ∷ record { input = bytes "clear"; output = bytes "bad\t1\t77\t0\n" }
    ∷ record {
      input = bytes "cic\t1\t2\t0\nx\t1\nrate\t0\nx\t1\nx\t1\nx\t1\n";
      output = bytes "y\t1\t0\ny\t2\t2\ny\t2\t1\ny\t2\t0\nend\t4\n";
    }
    ∷ record {
      input = bytes "cic\t0\t1\t0\nx\t2147483647\nx\t-2147483648\nx\t2147483648\n";
      output = bytes "y\t2147483647\t0\ny\t-2147483648\t0\nbad\t4\t76\t2\n";
    }
    ∷ record {
      input = bytes "cic64\t0\t1\t0\nx\t9223372036854775807\nx\t-9223372036854775808\nx\t9223372036854775808\n";
      output = bytes "y\t9223372036854775807\t0\ny\t-9223372036854775808\t0\nbad\t4\t76\t2\n";
    }
    ∷ record {
      input = bytes "cic64\t1\t1\t1\nx\t9223372036854775807\nx\t9223372036854775807\nx\t9223372036854775807\n";
      output = bytes "y\t9223372036854775807\t0\ny\t-2\t0\nend\t2\n";
    }
    ∷ record { input = bytes "cic64\t0\t1\t0\ncic\t0\t1\t0\n"; output = bytes "bad\t2\t71\t0\n" }
    -- 64 bytes without a newline  give  bad 1 77 0/
    ∷ record { input = replicate 64 (byte "x"); output = bytes "bad\t1\t77\t0\n" }
    -- 65 bytes, whatever follows,  give  bad 1 72 0/
    ∷ record { input = replicate 65 (byte "x") ++ bytes "\n"; output = bytes "bad\t1\t72\t0\n" }
    ∷ []

pub figures : map (λ (c : Case). replay c.input) table ≡ map (λ (c : Case). c.output) table
unfolding table replay replay_from output_line end_line bad_line line_of take_of record_of name_of same parted number_of plain_of leading_of
    digits_from spelt new_state rate_state clear_state take_number_of take_state take_given step_state step_given zeroed refusal_of view
    put rows put_rows given given_at decimated decimated_at differed combed less summed integrated pushed wrap word
figures = refl

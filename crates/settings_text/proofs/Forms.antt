-- 02, A7, of either form: it is lawful (Lines), so it has the laws of any lawful form (Stores).
use Rattle.settings_text.specs.Laws.{ReadBack, OneText}
use Rattle.settings_text.specs.Lines.{form_of}
use Rattle.settings_text.specs.declared.version.Version.{Version}
use Rattle.settings_text.proofs.Lines.{lawful}
use Rattle.settings_text.proofs.Stores.{read_back, one-text}

pub same_settings : (v : Version) → ReadBack (form_of v)
same_settings v = read_back (form_of v) (lawful v)

pub only-text : (v : Version) → OneText (form_of v)
only-text v = one-text (form_of v) (lawful v)

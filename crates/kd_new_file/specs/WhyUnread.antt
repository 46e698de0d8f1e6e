-- Why a file can't be read: the reason for each kind of system error.
-- Test: tests/cases/curator-files.toml
use Rattle.std.specs.declared.io.ErrorKind.{ErrorKind}
use Rattle.std.specs.declared.io.ErrorKind.TheVariants.{NotADirectory, NotFound, PermissionDenied}
use Rattle.kd_new_file.specs.declared.why_unread.WhyUnread.{WhyUnread}
use Rattle.kd_new_file.specs.declared.why_unread.WhyUnread.TheVariants as whys

-- Why a file can't be read, for a kind of system error: no file has this name, reading isn't permitted, or another
-- reason. If `a.txt` is a file, no file has the name `a.txt/b`.
abbrev pub why_by_kind : ErrorKind → WhyUnread
why_by_kind NotFound = whys.NotThere
why_by_kind NotADirectory = whys.NotThere
why_by_kind PermissionDenied = whys.NotAllowed
why_by_kind _ = whys.Other

-- What a party that stands at a place is to do, in words.
use Rattle.std.specs.Prelude.{ℕ, List, codes}
use Rattle.model.specs.Types.{Place, OpenTray, ReadTray, LookForNode, LockNode, Recheck, UnlockAndGoBack, ReadKid, ClearKid, UncountKid, Claim, Unlock, Offer, KeepForOneself, GiveBack, CloseTray, WriteData, CountKid, LinkKid}

abbrev pub place_text : Place → List ℕ
place_text OpenTray = codes "open its tray"
place_text ReadTray = codes "read its tray"
place_text LookForNode = codes "look for a node"
place_text (LockNode n) = codes "lock the node"
place_text (Recheck n) = codes "recheck the node's count"
place_text (UnlockAndGoBack n) = codes "unlock the node and go back"
place_text (ReadKid n k) = codes "read a kid"
place_text (ClearKid n k x) = codes "clear the kid"
place_text (UncountKid n k x) = codes "uncount the kid"
place_text (Claim n) = codes "claim the node"
place_text (Unlock n) = codes "unlock the node"
place_text (Offer n) = codes "offer the node"
place_text (KeepForOneself n) = codes "keep the node for itself"
place_text (GiveBack n) = codes "give the node back"
place_text (CloseTray n) = codes "close its tray"
place_text (WriteData n) = codes "write the node's data"
place_text (CountKid n k) = codes "count a kid"
place_text (LinkKid n k x) = codes "link the kid"

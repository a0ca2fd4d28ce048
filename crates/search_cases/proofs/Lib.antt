mod AddedIds
